-- What a run says under the settings that choose its map.
use Rattle.std.proofs.Common.{◌≡◌, ℕ, suc, ◌+◌, ◌*◌, ◌≤◌, Bool, true, false, cond, ⊎_elim}
use Rattle.std.proofs.Common.{List, [], ◌∷◌, length, refl, sym, ap, ap₂, ◌∙◌, subst, arith}
use Rattle.std.specs.Prelude.{Some, slice_get, count_by}
use Rattle.std.proofs.lemmas.Bool.{cases_Bool}
use Rattle.std.proofs.lemmas.List.Sums.{sum_by-cons}
use Rattle.pp_model.specs.declared.Answer.{Answer}
use Rattle.pp_model.specs.declared.Answer.TheVariants.{Said, Full, Lost}
use Rattle.pp_model.specs.declared.Call.{Call}
use Rattle.pp_model.specs.Calls.{inserts}
use Rattle.pp_model.specs.Lists.{AtEach}
use Rattle.pp_model.specs.Pass.{PassView, MapSizes, Meaning, RunView}
use Rattle.pp_model.specs.MapCalls.{IsClean}
use Rattle.pp_model.proofs.Chains.{answers_each, never_full}
use Rattle.pp_trace.specs.Text.{count_all, is_full, is_lost}
use Rattle.pp_words.specs.declared.Settings.{Settings}
use Rattle.pp_words.specs.declared.Kind.{Kind}
use Rattle.pp_words.specs.declared.Kind.TheVariants as kind
use Rattle.pp_words.specs.Words.{InRange}
use Rattle.pp_running.specs.Run.{IsRunOf, IsCaller}
use Rattle.pp_running.proofs.Callers as callers
use Rattle.pp_replay.specs.Replay.{IsRunUnder, meaning_of, sizes_of, share_of}
use Rattle.pp_programs.specs.Printed.{AreShort}
use Rattle.pp_programs.proofs.Counts.{none_counted, none_of_all}
use Rattle.pp_replay.specs.Parts.{IsChosen}

full_is : (a : Answer) → is_full a ≡ true → a ≡ Full
full_is (Said r) e = absurd cc
full_is Full e = refl
full_is (Lost t) e = absurd cc

lost_is : (a : Answer) → is_lost a ≡ true → (t : ℕ) × (a ≡ Lost t)
lost_is (Said r) e = absurd cc
lost_is Full e = absurd cc
lost_is (Lost t) e = (t, refl)

-- With one caller no line of a map is lost that opened without records of removed pairs.
pub none_lost : (meaning : Meaning) (sizes : MapSizes) (settings : Settings) (opened : List PassView) (lists : List (List Call))
    (answers : List (List Answer)) (run : RunView) → IsRunOf meaning sizes settings.races opened lists answers run
    → sizes ≡ sizes_of settings → InRange settings → AtEach opened (λ c p. IsClean meaning sizes p) → settings.callers ≡ 1
    → count_all is_lost answers ≡ 0
none_lost meaning sizes settings opened lists answers run ran sized within clean one = none_of_all is_lost answers (λ c got at.
    none_counted is_lost got (λ k a here yes. callers.none_lost meaning sizes settings.races opened lists answers run ran clean
    (ap (λ (z : MapSizes). z.passes) sized ∙ one) within.races_low c got at k a here (lost_is a yes).0 (lost_is a yes).1))

module _ (settings : Settings) (opened : List PassView) (lists : List (List Call)) (answers : List (List Answer)) (run : RunView)
    (ran : IsRunOf (meaning_of settings.map) (sizes_of settings) settings.races opened lists answers run) where
  list_for : (c : ℕ) (got : List Answer) → slice_get answers c ≡ Some got → (calls : List Call) × (slice_get lists c ≡ Some calls)
  list_for c got at = callers.list_for (meaning_of settings.map) (sizes_of settings) settings.races opened lists answers run ran c got at

  pass_for : (c : ℕ) (got : List Answer) → slice_get answers c ≡ Some got → (p : PassView) × (slice_get opened c ≡ Some p)
  pass_for c got at = callers.pass_for (meaning_of settings.map) (sizes_of settings) settings.races opened lists answers run ran c got at

  chain : (c : ℕ) (got : List Answer) (at : slice_get answers c ≡ Some got)
      → IsCaller (meaning_of settings.map) (sizes_of settings) settings.races run c (pass_for c got at).0 (list_for c got at).0 got
  unfolding list_for pass_for
  chain c got at = callers.chain (meaning_of settings.map) (sizes_of settings) settings.races opened lists answers run ran c got at

  none_full : AtEach opened (λ c p. p.share ≡ share_of settings.map (sizes_of settings) c)
      → AtEach lists (λ c calls. (meaning_of settings.map).need * inserts calls ≤ share_of settings.map (sizes_of settings) c)
      → count_all is_full answers ≡ 0
  none_full shares enough = none_of_all is_full answers (λ c got at.
      let one = chain c got at in
      let pass = pass_for c got at in
      let list = list_for c got at in
      let own = shares c pass.0 pass.1 in
      let given = enough c list.0 list.1 in
      let fits : (meaning_of settings.map).need * inserts list.0 ≤ pass.0.share = omega (arith, given, own) in
      let never = never_full (meaning_of settings.map) (sizes_of settings) settings.races pass.0 one.closed list.0 got one.made
      (ran.passes c pass.0 pass.1).fresh.free fits in
      none_counted is_full got (λ k a here yes. never k a here (full_is a yes)))

  -- the run is one of the map that the settings choose, with its shares
  pub under : AtEach opened (λ c p. p.share ≡ share_of settings.map (sizes_of settings) c)
      → (settings.callers ≡ 1 → count_all is_lost answers ≡ 0) → IsRunUnder settings lists answers run
  under shares unlost = record {
    opened = opened;
    shares = λ c p at. shares c p at ∙ ap (λ (z : MapSizes). share_of settings.map z c) (sym ran.sizes_are);
    ran = ran;
    none_full = λ enough. none_full shares (subst
        (λ (z : MapSizes). AtEach lists (λ c calls. (meaning_of settings.map).need * inserts calls ≤ share_of settings.map z c))
        ran.sizes_are enough);
    none_lost = unlost;
  }

  pub under_opened : (shares : AtEach opened (λ c p. p.share ≡ share_of settings.map (sizes_of settings) c))
      → (unlost : settings.callers ≡ 1 → count_all is_lost answers ≡ 0) → (under shares unlost).opened ≡ opened
  unfolding under
  under_opened shares unlost = refl

  -- one answer a call
  pub short : InRange settings → length lists ≡ settings.callers → AtEach lists (λ c calls. length calls ≤ 16777216) → AreShort answers
  short within count each = record {
    callers = omega (arith, ran.answered, count, within.callers_high);
    each = λ c got at. let one = chain c got at in
        omega (
          arith,
          each c (list_for c got at).0 (list_for c got at).1,
          answers_each (meaning_of settings.map) (sizes_of settings) settings.races (pass_for c got at).0 one.closed
              (list_for c got at).0 got one.made,
        );
  }

-- a map has no more pairs than live records
few_pairs : (k : Kind) (n : ℕ) → n ≤ (meaning_of k).live n
few_pairs kind.Plain n = omega arith
few_pairs kind.List n = omega arith
few_pairs kind.Hash n = omega arith
few_pairs kind.Tree n = omega arith

-- a map with the meaning and the sizes of the one that the settings choose is that one
pub chosen : (settings : Settings) (meaning : Meaning) (sizes : MapSizes) → meaning ≡ meaning_of settings.map → sizes ≡ sizes_of settings
    → IsChosen meaning sizes settings
chosen settings meaning sizes meant sized = record {
  sizes_are = sized;
  runs = λ opened lists answers run ran.
      subst (λ (m : Meaning). IsRunOf m (sizes_of settings) settings.races opened lists answers run) meant
      (subst (λ (z : MapSizes). IsRunOf meaning z settings.races opened lists answers run) sized ran);
  live = λ n. subst (λ (m : Meaning). n ≤ m.live n) (sym meant) (few_pairs settings.map n);
}
