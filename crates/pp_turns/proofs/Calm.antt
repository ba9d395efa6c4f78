-- Steps that count for nothing in a call.
use Rattle.std.proofs.Common.{List, ◌++◌, sym, ap, ◌∙◌, append_assoc}
use Rattle.pp_link.specs.declared.layout.Sizes.{Sizes}
use Rattle.pp_model.specs.declared.Call.{Call}
use Rattle.pp_model.specs.declared.Change.{Change}
use Rattle.pp_model.specs.declared.Placed.{Placed}
use Rattle.pp_model.specs.declared.steps.Step.{Step}
use Rattle.pp_model.specs.Pass.{MapSizes}
use Rattle.pp_rule.specs.declared.views.SeatView.{SeatView}
use Rattle.pp_rule.specs.Causes.{Reader}
use Rattle.pp_calls.proofs.Growing.{stepped_both}
use Rattle.pp_shelf.specs.Runs.{map_sizes, steps_made}
use Rattle.pp_turns.specs.Answers.{Calm}
use Rattle.pp_turns.specs.Causes.{Aside, PassesOver}
use Rattle.pp_turns.specs.Tallies.{losing, effected}
use Rattle.pp_turns.proofs.Aside.{counts_losing, counts_effected}
use Rattle.pp_turns.proofs.Placing.{unplaced_on}
use Rattle.pp_turns.proofs.Stretches.{ran_both, ran_as, own_before, stretch_both}

-- steps beside the structure
pub calm_aside : (r : Reader Call) (z : Sizes) → PassesOver r z → (call : Call) {W : Type 0} (v w : SeatView Change Placed W) → Aside z v w
    → Calm r (map_sizes z) call v w
calm_aside r z over call v w a = record {
  stepped = a.stepped;
  stands = a.stands;
  unplaced = a.unplaced;
  losing_so = λ m n. (_, counts_losing r z over call v w a m n);
  effected_so = λ m n few later. (_, counts_effected r z over call v w a m n few later);
}

pub calm_both : (r : Reader Call) (z : MapSizes) (call : Call) {W : Type 0} (u v w : SeatView Change Placed W) → Calm r z call u v
    → Calm r z call v w → Calm r z call u w
calm_both r z call u v w a b = record {
  stepped = stepped_both u v w a.stepped b.stepped;
  stands = λ own stands. b.stands own (a.stands (own_before v w b.stepped own) stands);
  unplaced = unplaced_on u v w a.stepped.number a.unplaced b.unplaced;
  losing_so = λ m n. let x = a.losing_so m n in let y = b.losing_so x.0 n in
      (y.0, ran_both r z call (losing m n) (losing x.0 n) (losing y.0 n) u v w x.1 y.1);
  effected_so = λ m n few later. let x = a.effected_so m n few later in let y = b.effected_so x.0 n few (later ++ steps_made u v) in (
    y.0,
    ran_as r z call (effected m n few later) _ _ u w
        (ap (λ (l : List Step). effected y.0 n few l) (append_assoc later (steps_made u v) (steps_made v w)
        ∙ ap (λ (l : List Step). later ++ l) (sym (stretch_both u v w a.stepped b.stepped))))
        (ran_both r z call (effected m n few later) (effected x.0 n few (later ++ steps_made u v))
        (effected y.0 n few ((later ++ steps_made u v) ++ steps_made v w)) u v w x.1 y.1),
  );
}
