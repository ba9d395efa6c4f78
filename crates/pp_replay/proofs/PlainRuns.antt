-- How the plain map starts under settings that choose it.
use Rattle.std.proofs.Common.{◌≡◌, ℕ, zero, suc, ◌+◌, ◌/◌, ◌%◌, cond, nat_lt, [], ◌∷◌, sym, ap, ◌∙◌, arith}
use Rattle.pp_model.specs.Lists.{AtEach}
use Rattle.pp_model.specs.Pass.{PassView}
use Rattle.pp_model.specs.Plain.{plain_sizes}
use Rattle.pp_words.specs.declared.Settings.{Settings}
use Rattle.pp_words.specs.declared.Kind.TheVariants as kind
use Rattle.pp_words.specs.Words.{InRange}
use Rattle.pp_replay.specs.Replay.{sizes_of, heads_of, dealt, share_of}

whole_share : (d callers r : ℕ) → d ≡ r → callers ≡ 1 → d / callers + cond (nat_lt 0 (d % callers)) 1 0 ≡ r
whole_share d callers r all one = let none : r % 1 ≡ 0 = omega arith in rw (all, one, none) (omega arith)

module _ (settings : Settings) (within : InRange settings) (plain : settings.map ≡ kind.Plain) where
  alone : settings.callers ≡ 1
  alone = within.alone plain

  pub plain_sized : plain_sizes settings.records ≡ sizes_of settings
  plain_sized = sym (λ i. record { passes = alone i; records = settings.records; heads = ap (heads_of settings) plain i })

  dealt_all : dealt settings.map (sizes_of settings) ≡ settings.records
  dealt_all = ap (λ k. dealt k (sizes_of settings)) plain

  pub plain_shares : (pass : PassView) → pass.share ≡ settings.records
      → AtEach (pass ∷ []) (λ c p. p.share ≡ share_of settings.map (sizes_of settings) c)
  plain_shares pass share zero p at = let same : pass ≡ p = cc in ap (λ q. q.share) (sym same)
      ∙ (share ∙ sym (whole_share (dealt settings.map (sizes_of settings)) settings.callers settings.records dealt_all alone))
  plain_shares pass share (suc c) p at = absurd cc
