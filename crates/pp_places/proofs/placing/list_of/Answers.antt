use Rattle.std.proofs.Common.{arith, ◌≡◌, List, [], ◌++◌, drop, sym, ap, subst}
use Rattle.std.proofs.lemmas.List.{drop_all}
use Rattle.pp_model.specs.declared.Call.{Call}
use Rattle.pp_places.specs.Places.{PlacesOn}
use Rattle.pp_places.proofs.Listed.{places_more, places_last}
use Rattle.pp_places.proofs.placing.list_of.Goals as goal

pub loop-at-init : goal.loop-at-init
loop-at-init c = λ exact mine marked are.
    record { rest = mine; whole = ap (λ l. l ++ mine) (sym c.new-list.ensures.items); marked = marked }

pub loop-at-preserved : goal.loop-at-preserved
loop-at-preserved c = λ exact mine marked are.
    places_more c.args.log.now mine c.args.calls.now c.args.answers.now c.args.marks.now exact c.loop-at.at _ _ _ c.loop-at.list.items
    c.place_call.new.list.items c.loop-at-test.true marked are
    (λ calls answers rest m is e. c.in_ok-place_call.ensures mine calls answers rest m is e) (c.loop-at.invariant exact mine marked are)

pub returns : goal.returns
returns c = λ exact mine marked are.
    let e = c.loop-at.invariant exact mine marked are in
    let none : drop c.loop-at.at c.args.calls.now ≡ [] = drop_all c.loop-at.at c.args.calls.now (omega (arith, c.loop-at-test.false)) in
    places_last c.args.log.now mine _ _ c.loop-at.list.items
    (subst (λ (cs : List Call). PlacesOn c.args.log.now mine cs (drop c.loop-at.at c.args.answers.now) (drop c.loop-at.at exact)
    c.loop-at.list.items) none e)
