-- Counts that grow by some answers.
use Rattle.std.specs.Prelude.{◌≡◌, ℕ, ◌+◌, ◌^◌, ◌<◌, List, count_by}
use Rattle.pp_model.specs.declared.Answer.{Answer}
use Rattle.pp_trace.specs.declared.Counts.{Counts}
use Rattle.pp_trace.specs.Text.{is_added, is_held, is_value, is_absent, is_took, is_full, is_lost}

-- so many answers more fit whatever their kind
pub record HasRoom (counts : Counts) (more : ℕ) : Type 0 where
  pub added : counts.added + more < 2 ^ 32
  pub held : counts.held + more < 2 ^ 32
  pub value : counts.value + more < 2 ^ 32
  pub absent : counts.absent + more < 2 ^ 32
  pub took : counts.took + more < 2 ^ 32
  pub full : counts.full + more < 2 ^ 32
  pub lost : counts.lost + more < 2 ^ 32

-- each count grew by the answers of its kind
pub record CountsAlso (old new : Counts) (answers : List Answer) : Type 0 where
  pub added : new.added ≡ old.added + count_by is_added answers
  pub held : new.held ≡ old.held + count_by is_held answers
  pub value : new.value ≡ old.value + count_by is_value answers
  pub absent : new.absent ≡ old.absent + count_by is_absent answers
  pub took : new.took ≡ old.took + count_by is_took answers
  pub full : new.full ≡ old.full + count_by is_full answers
  pub lost : new.lost ≡ old.lost + count_by is_lost answers
