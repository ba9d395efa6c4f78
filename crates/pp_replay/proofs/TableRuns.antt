-- How a table starts under settings that choose it.
use Rattle.std.proofs.Common.{◌≡◌, ℕ, ◌-◌, sym, ap, ◌∙◌, arith, inl, inr}
use Rattle.pp_rule.specs.Opening.{share_of as pool_share}
use Rattle.pp_ends.specs.Ends.{map_sizes}
use Rattle.pp_buckets.specs.Tables.{table_sizes}
use Rattle.pp_list.specs.Meant.{list_meaning}
use Rattle.pp_words.specs.declared.Settings.{Settings}
use Rattle.pp_replay.specs.Parts.{IsTable}
use Rattle.pp_replay.specs.Replay.{meaning_of, sizes_of, heads_of, dealt, share_of}
use Rattle.pp_replay.proofs.PoolRuns.{pool_shares}

module _ (settings : Settings) (buckets : ℕ) where
  pub table_meant : IsTable settings buckets → list_meaning ≡ meaning_of settings.map
  table_meant (inl is) = sym (ap meaning_of is.0)
  table_meant (inr is) = sym (ap meaning_of is.0)

  table_heads : IsTable settings buckets → buckets ≡ heads_of settings settings.map
  table_heads (inl is) = is.1 ∙ sym (ap (heads_of settings) is.0)
  table_heads (inr is) = is.1 ∙ sym (ap (heads_of settings) is.0)

  pub table_sized : IsTable settings buckets → map_sizes (table_sizes settings.callers settings.records buckets) ≡ sizes_of settings
  table_sized is = λ i. record { passes = settings.callers; records = settings.records; heads = table_heads is i }

  all : settings.records ≡ settings.records - 0
  all = omega arith

  table_dealt : IsTable settings buckets → dealt settings.map (sizes_of settings) ≡ settings.records - 0
  table_dealt (inl is) = ap (λ k. dealt k (sizes_of settings)) is.0 ∙ all
  table_dealt (inr is) = ap (λ k. dealt k (sizes_of settings)) is.0 ∙ all

  pub table_shares : IsTable settings buckets → (c : ℕ)
      → pool_share 0 (table_sizes settings.callers settings.records buckets) c ≡ share_of settings.map (sizes_of settings) c
  table_shares is c = pool_shares settings.map 0 (sizes_of settings) c (table_dealt is)
