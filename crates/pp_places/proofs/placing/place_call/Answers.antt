use Rattle.std.proofs.Common.{◌≡◌, List, ◌∷◌, refl, sym, subst}
use Rattle.pp_model.specs.declared.Answer.{Answer}
use Rattle.pp_model.specs.declared.Answer.TheVariants.{Said, Full, Lost}
use Rattle.pp_model.specs.declared.Placed.{Placed}
use Rattle.std.specs.Prelude.{Result, Ok, Err, OnOk}
use Rattle.pp_places.specs.Places.{PlacesOn}
use Rattle.pp_schedule.proofs.Marking.{Unplaced}
use Rattle.pp_places.proofs.Listed.{places_other, places_said}
use Rattle.pp_places.proofs.placing.place_call.Goals as goal

unplaced : (a : Answer) → ((r : _) → a ≡ Said r → ⊥) → Unplaced a
unplaced (Said r) not = absurd (not r refl)
unplaced Full not = tt
unplaced (Lost turns) not = tt

on_ok : {A E : Type 0} (r : Result A E) (P Q : Type 0) → OnOk r P → (P → Q) → OnOk r Q
on_ok (Ok x) P Q h f = f h
on_ok (Err e) P Q h f = tt

pub returns-in_default : goal.returns-in_default
returns-in_default c = λ mine calls answers exact m is e.
    places_other c.args.log.now mine c.args.call c.args.answer.now m calls answers exact c.args.list.now.items
    (unplaced c.args.answer.now c.in_default.not-Said) e

pub returns : goal.returns
returns c = λ mine calls answers exact m is e.
    on_ok c.append.result _ _ c.append.ensures (λ items.
    subst (λ (l : List Placed). PlacesOn c.args.log.now mine calls answers exact l) (sym items)
    (places_said c.args.log.now mine c.args.call c.in-Said.reply m calls answers exact c.args.list.now.items c.place_of-place.result
    (λ s placed. c.place_of-place.ensures m s is placed)
    (subst (λ (a : Answer). PlacesOn c.args.log.now mine (c.args.call ∷ calls) (a ∷ answers) (m ∷ exact) c.args.list.now.items)
    c.in-Said.is e)))
