-- What a reclaim pass reads and what it frees.
use Rattle.std.specs.Prelude.{◌≡◌, ℕ, ◌+◌, ◌*◌, ◌-◌, ◌<◌, ◌≤◌, cond, nat_lt, List, [], ◌++◌, map, length, take}
use lib.ListN.{get_elem?}
use mathlib.Core.Option.{some}
use Rattle.atomic_table.specs.declared.shared.Seat.{Seat}
use Rattle.pp_link.specs.declared.layout.Sizes.{Sizes}
use Rattle.pp_link.specs.Places.{frontier_place, walk_place}
use Rattle.pp_rule.specs.Lists.{IsIn, without_all}
use Rattle.pp_rule.specs.declared.views.PrivateRecord.{PrivateRecord}
use Rattle.pp_rule.specs.declared.views.PassState.{PassState}
use Rattle.pp_rule.specs.declared.views.SeatView.{SeatView}
use Rattle.pp_rule.specs.Rule.{number_of}
use Rattle.pp_rule.specs.Steps.{still}
use Rattle.pp_base.specs.declared.purse.Purse.{Purse}
use Rattle.pp_base.specs.Passes.{known, view, IsSame}
use Rattle.pp_unlink.specs.Invalidation.{Flushed, SameFree}
use Rattle.pp_base.specs.Named.{NamedStep, scans_frontier, scans_walk, Made}
pub use Rattle.pp_base.specs.Named.{in_turn}
use Rattle.pp_base.specs.Scans.{GotBack, is_named, chosen, rejected}

-- what the pass knows after a reclaim pass: these records came to it, and these numbers stay retired
abbrev pub swept : {W : Type 0} → List PrivateRecord → List ℕ → PassState W → PassState W
swept freed stay q = record q { owned = q.owned ++ freed; retired = stay; scan = record { read = 0; left = [] } }

-- the loads of a reclaim pass: the frontier words of all passes, and then their walk words
abbrev pub scan_steps : Sizes → List ℕ → List ℕ → List NamedStep
scan_steps z fronts walks = in_turn scans_frontier (frontier_place z 0 0) fronts ++ in_turn scans_walk (walk_place z 0 0) walks

-- the load of the hazard word k, which found this word: the frontier words come first, and then the walk words
abbrev pub hazard_load : Sizes → ℕ → ℕ → NamedStep
hazard_load z k word = cond (nat_lt k (4 * z.passes)) (scans_frontier (frontier_place z 0 0 + k) word)
    (scans_walk (walk_place z 0 0 + (k - 4 * z.passes)) word)

-- the number was read in a hazard word
pub record WasNamed (z : Sizes) (fronts walks : List ℕ) (n : ℕ) : Type 0 where
  pub k : ℕ
  pub low : k < 9 * z.passes
  pub word : get_elem? (fronts ++ walks) k ≡ some n
  pub load : get_elem? (scan_steps z fronts walks) k ≡ some (hazard_load z k n)

module _ {E A W : Type 0} where
  -- A reclaim pass loaded these words, and has left what none of them names. What else the pass knows is as it was.
  pub record HasRead (load : ℕ → ℕ → NamedStep) (place : ℕ) (words : List ℕ) (s s' : Seat Unit (SeatView E A W)) : Type 0 where
    pub same : IsSame s s'
    pub rest : known s' ≡ record (known s) { scan = (known s').scan }
    pub read : (known s').scan.read ≡ (known s).scan.read + length words
    pub left : still (known s') ≡ without_all words (still (known s))
    pub steps : Made (in_turn load place words) (view s) (view s')

  -- a reclaim pass loaded the frontier words of all passes, and then all their walk words but the last one
  pub record HasReadMost (z : Sizes) (words : List ℕ) (s s' : Seat Unit (SeatView E A W)) : Type 0 where
    pub fronts : List ℕ
    pub walks : List ℕ
    pub all_fronts : length fronts ≡ 4 * z.passes
    pub most_walks : length walks + 1 ≡ 5 * z.passes
    pub all_words : length words ≡ 9 * z.passes
    pub words_are : take (length words - 1) words ≡ fronts ++ walks
    pub between : Seat Unit (SeatView E A W)
    pub first : HasRead scans_frontier (frontier_place z 0 0) fronts s between
    pub second : HasRead scans_walk (walk_place z 0 0) walks between s'

  -- A reclaim pass loaded the frontier words of all passes, and then all their walk words. The retired records that none of the
  -- words names are free with the pass, in the order in which they were retired. The others stay retired, in that order too.
  pub record Swept (z : Sizes) (many : ℕ) (s s' : Seat Unit (SeatView E A W)) (p p' : Purse) : Type 0 where
    pub fronts : List ℕ
    pub walks : List ℕ
    pub all_fronts : length fronts ≡ 4 * z.passes
    pub all_walks : length walks ≡ 5 * z.passes
    pub steps : Made (scan_steps z fronts walks) (view s) (view s')
    pub freed : List PrivateRecord
    pub unnamed : map number_of freed ≡ rejected (is_named (fronts ++ walks)) (known s).retired
    pub known_is : known s' ≡ swept freed (chosen (is_named (fronts ++ walks)) (known s).retired) (known s)
    pub purse : GotBack (map number_of freed) (known s').retired p p'
    pub count : many ≡ length freed
    -- No number that a word names is freed, each that stays is named by a word, and no more stay than there are words.
    pub kept : (n : ℕ) → IsIn n (fronts ++ walks) → IsIn n (map number_of freed) → ⊥
    pub named : (n : ℕ) → IsIn n (known s').retired → WasNamed z fronts walks n
    pub few : length (known s').retired ≤ 9 * z.passes

  -- The chains in hand were retired, the oldest first. Then a reclaim pass freed what no hazard word names.
  pub record Reclaims (sides : ℕ) (z : Sizes) (many : ℕ) (s s' : Seat Unit (SeatView E A W)) (p p' : Purse) : Type 0 where
    pub between : Seat Unit (SeatView E A W)
    pub lists : Purse
    pub flushed : Flushed sides z (length (known s).chains) (view s) (view between)
    pub free : SameFree p lists
    pub swept : Swept z many between s' lists p'
    -- no chain is in hand
    pub none : (known s').chains ≡ []
