-- A call on a list that is ended meets its clauses.
use Rattle.std.proofs.Common.{◌≡◌, ℕ, ◌≤◌, Bool, true, false, cond, List, [], ◌∷◌, ◌++◌, map, length, refl, ap, subst, Option}
use Rattle.pp_link.specs.declared.layout.Sizes.{Sizes}
use Rattle.pp_pool.specs.declared.fresh.Fresh.{Fresh}
use Rattle.pp_model.specs.declared.Answer.{Answer}
use Rattle.pp_model.specs.declared.Call.{Call}
use Rattle.pp_model.specs.declared.steps.Step.{Step}
use Rattle.pp_model.specs.Pass.{MapSizes}
use Rattle.pp_rule.specs.Lists.{IsIn}
use Rattle.pp_rule.proofs.Put.{in_left}
use Rattle.pp_base.specs.declared.purse.Purse.{Purse}
use Rattle.pp_base.specs.Named.{NamedStep, name_of}
use Rattle.pp_calls.specs.Steps.{WriteNone}
use Rattle.pp_calls.proofs.Growing.{kinds_none}
use Rattle.pp_shelf.specs.Runs.{map_sizes, steps_made}
use Rattle.pp_lists.specs.Turns.{ListView}
use Rattle.pp_lists.specs.Losses.{is_effect, list_reader}
use Rattle.pp_turns.specs.Answers.{IsSettled}
use Rattle.pp_turns.specs.Tallies.{losing, effected, tally, lost_at}
use Rattle.pp_turns.proofs.Ending as ending
use Rattle.pp_turns.proofs.Stretches.{steps_named}
use Rattle.pp_walk.proofs.Counting.{walks_write_none}
use Rattle.pp_walk.specs.Roles.{is_look}
use Rattle.pp_walk.specs.Trod.{Idles}
use Rattle.pp_list.specs.Causes.{list_causes, taken_by, effect_place, number_at, ListLeftBy}
use Rattle.pp_list.specs.Meant.{list_words, HoldsPairs}
use Rattle.pp_list.specs.Purses.{Leaves, out_of}
use Rattle.pp_list.specs.Answers.{Ends}
use Rattle.pp_list.proofs.Calm.{calm_quiet}
use Rattle.pp_list.proofs.Reading.{list_over}

-- what a call clears as it ends writes no link
silent : (v w : ListView) → Idles v w → WriteNone (steps_made v w)
silent v w q = kinds_none (steps_made v w) (λ n i. walks_write_none n.kind (q.writes n
    (subst (λ (ns : List NamedStep). IsIn n ns) (steps_named q.steps v w q.did) i)))

-- the first effect stands where it stood
pub effect_front : (call : Call) (z : MapSizes) (m : List NamedStep) (n lost early : ℕ) (m' : List NamedStep) (later xs ys : List Step)
    → tally list_reader z call (losing m n) xs ≡ effected m' lost early later
    → effect_place (map name_of (xs ++ ys)) ≡ effect_place (map name_of xs)
unfolding tally effect_place
effect_front call z m n lost early m' later [] ys e = absurd cc
effect_front call z m n lost early m' later (x ∷ xs) ys e = by (is_effect (name_of x)) e
    (λ f. effect_front call z (name_of x ∷ m) (lost_at list_reader z call m x n) lost early m' later xs ys f)
  where
    by : (b : Bool) → tally list_reader z call (cond b (effected (name_of x ∷ m) (lost_at list_reader z call m x n) n [])
        (losing (name_of x ∷ m) (lost_at list_reader z call m x n))) xs ≡ effected m' lost early later
        → (tally list_reader z call (losing (name_of x ∷ m) (lost_at list_reader z call m x n)) xs ≡ effected m' lost early later
        → effect_place (map name_of (xs ++ ys)) ≡ effect_place (map name_of xs))
        → cond b x.place (effect_place (map name_of (xs ++ ys))) ≡ cond b x.place (effect_place (map name_of xs))
    by true f again = refl
    by false f again = again f

-- so the record whose pair a call took is settled by its steps
pub taken_settled : (z : MapSizes) (call : Call) (m : List NamedStep) (lost early : ℕ) (later steps : List Step)
    → tally list_reader z call (losing [] 0) steps ≡ effected m lost early later → IsSettled (taken_by z call) steps
taken_settled z call m lost early later steps read = λ more. ap (number_at z) (effect_front call z [] 0 lost early m later steps more read)

-- and a miss stays one
left_on : (z : MapSizes) (call : Call) (races lost : ℕ) (later more : List Step) → ListLeftBy z call races lost later
    → ListLeftBy z call races lost (later ++ more)
left_on z call races lost later more y = (y.0, (in_left y.0 later more y.1.0, y.1.1, y.1.2))

-- It is ended.
pub ended : (z : Sizes) (share races : ℕ) (call : Call) (fresh : Option Fresh) (v w : ListView) (p p' : Purse)
    → Leaves (is_look call) z share fresh v w p p' → w.known.sizes ≡ v.known.sizes → length w.known.chains ≤ 4 → (answer : Answer)
    → Ends z share races call fresh answer v w p p'
ended z share races call fresh v w p p' l sizes four answer = ending.ended list_words list_causes HoldsPairs z call races
    (left_on (map_sizes z) call races) (list_over z) Idles (calm_quiet z call) silent share (out_of fresh) v w p p' l sizes four answer
