-- Steps of a pass by their names and the calls that were placed at them.
use Rattle.std.proofs.Common.{◌≡◌, ℕ, ◌<◌, List, [], ◌∷◌, ◌++◌, length, refl, ap, ◌∙◌}
use Rattle.std.specs.Prelude.{map}
use Rattle.std.proofs.lemmas.List.{map-append}
use Rattle.pp_model.specs.declared.Change.{Change}
use Rattle.pp_model.specs.declared.Placed.{Placed}
use Rattle.pp_rule.specs.Steps.{MadeStep}
use Rattle.pp_base.specs.Named.{NamedStep, name_of, Made}
use Rattle.pp_calls.specs.Steps.{Stepped}
use Rattle.pp_calls.proofs.Growing.{stepped_none, stepped_one, stepped_both, went_on, went_stepped}
use Rattle.pp_lists.specs.Lists.{ListPass}
use Rattle.pp_lists.specs.Turns.{ListView}
use Rattle.pp_walk.specs.Trod.{Trod, FindSo, WriteNoLink}

pub record Strand (steps : List NamedStep) (calls : List Placed) (v w : ListView) : Type 0 where
  pub stepped : Stepped v w
  pub calls_are : stepped.calls ≡ calls
  pub named : map name_of stepped.steps ≡ steps

pub strand_none : (v w : ListView) → w ≡ v → Strand [] [] v w
unfolding stepped_none
strand_none v w is = record { stepped = stepped_none v w is; calls_are = refl; named = refl }

pub strand_one : (kind place word left : ℕ) (changes : List Change) (calls : List Placed) (known : ListPass) (v w : ListView)
    → MadeStep kind place word left changes calls known v w → known.number ≡ v.known.number
    → Strand (record { kind = kind; place = place; word = word } ∷ []) calls v w
unfolding stepped_one
strand_one kind place word left changes calls known v w m number =
    record { stepped = stepped_one v w m number; calls_are = refl; named = refl }

pub strand_both : (xs ys : List NamedStep) (cs ds : List Placed) (u v w : ListView) → Strand xs cs u v → Strand ys ds v w
    → Strand (xs ++ ys) (cs ++ ds) u w
unfolding stepped_both went_on went_stepped
strand_both xs ys cs ds u v w a b = record {
  stepped = stepped_both u v w a.stepped b.stepped;
  calls_are = ap (λ (l : List Placed). l ++ b.stepped.calls) a.calls_are ∙ ap (λ (l : List Placed). cs ++ l) b.calls_are;
  named = map-append name_of a.stepped.steps b.stepped.steps ∙ (ap (λ (l : List NamedStep). l ++ map name_of b.stepped.steps) a.named
      ∙ ap (λ (l : List NamedStep). xs ++ l) b.named);
}

pub strand_made : (steps : List NamedStep) (v w : ListView) → Made steps v w → Strand steps [] v w
strand_made [] v w is = strand_none v w is
strand_made (s ∷ steps) v w m = strand_both (s ∷ []) steps [] [] v m.0 w
    (strand_one s.kind s.place s.word m.1.0.left [] [] m.1.0.known v m.0 m.1.0.made m.1.0.number) (strand_made steps m.0 w m.1.1)

unfoldable pub trod_of : (lost : ℕ) (steps : List NamedStep) (calls : List Placed) (v w : ListView) → Strand steps calls v w
    → 0 < length steps
    → FindSo lost steps → WriteNoLink steps → Trod lost calls v w
trod_of lost steps calls v w s some_made so writes = record {
  stepped = s.stepped;
  calls_are = s.calls_are;
  steps = steps;
  named = s.named;
  some_made = some_made;
  loses = so;
  writes = writes;
}
