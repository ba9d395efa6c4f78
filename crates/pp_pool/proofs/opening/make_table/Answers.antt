use Rattle.std.proofs.Common.{List, ℕ, [], length, sym, ap, ◌∙◌, subst}
use Rattle.atomic_table.specs.Table.{opening}
use Rattle.pp_link.specs.Places.{total}
use Rattle.pp_rule.specs.Ties.{Holds}
use Rattle.pp_rule.specs.Opening.{opening_words, first_view}
use Rattle.pp_rule.proofs.Opening.{holds_open}
use Rattle.pp_rule.proofs.OpeningWords.{opening_wide}
use Rattle.pp_pool.proofs.opening.make_table.Goals as goal

pub of_words-requires : goal.of_words-requires
of_words-requires g c = let S = g.S.Shape in let laws = g.met.S.Shape in let z = c.args.sizes in
    let opens = opening_words S.SENTINELS S.first_head S.first_field in
    let holds = holds_open S.SIDES S.SENTINELS S.first_head S.first_field S.fresh z S.addition [] laws.sided.1 c.requires.within
    c.requires.sentinels laws.heads_open laws.links_open laws.opened in
    subst (λ (words : List ℕ). Holds S.SIDES opens S.addition z (opening words [] (first_view S.SENTINELS S.fresh z)))
    (sym (c.deref.ensures.value ∙ c.in_ok-words.ensures)) holds

pub invariant_of-result : goal.invariant_of-result
invariant_of-result g c = let S = g.S.Shape in record {
  keyed = c.in-Ok.ensures.5 ∙ sym c.new-layout.ensures;
  wide = c.in-Ok.ensures.0 ∙ (ap length (c.deref.ensures.value ∙ c.in_ok-words.ensures)
      ∙ (opening_wide S.SENTINELS S.first_head S.first_field c.args.sizes c.requires.sentinels ∙ ap total (sym c.new-layout.ensures)));
  slotless = c.in-Ok.ensures.1;
}
