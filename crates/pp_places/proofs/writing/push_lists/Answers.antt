use Rattle.std.proofs.Common.{arith, ◌++◌, List, [], length, map, ap, sym, refl, ◌∙◌, append-nil, subst}
use Rattle.std.specs.List.{flat_map}
use Rattle.std.proofs.lemmas.List.{take_all, length-map}
use Rattle.std.proofs.lemmas.Option.{slice_get_read, get_or_from_slice_get}
use Rattle.pp_model.specs.declared.Placed.{Placed}
use Rattle.pp_running.proofs.Lists.{at_mapped}
use Rattle.pp_certificate.specs.Printed.{said_line, said_text}
use Rattle.pp_places.specs.Held.{IsListHeld}
use Rattle.pp_places.proofs.Texts.{listed}
use Rattle.pp_places.proofs.Holding.{first_none, first_more, first_all}
use Rattle.pp_places.proofs.writing.push_lists.Goals as goal

pub loop-caller-init : goal.loop-caller-init
loop-caller-init c = record {
  text = sym (append-nil c.args.text.now.items);
  held = first_none IsListHeld (map (λ v. v.items) c.args.lists.now) 0;
}

pub loop-caller-preserved : goal.loop-caller-preserved
loop-caller-preserved c =
    let k = c.loop-caller.caller in
    let lists = c.args.lists.now in
    let at = at_mapped (λ v. v.items) lists k c.index-lists-caller.result
    (slice_get_read lists (length lists) k c.index-lists-caller.result refl c.loop-caller-test.true c.index-lists-caller.is) in
    let is = c.deref.ensures.value ∙ sym (get_or_from_slice_get (map (λ v. v.items) lists) k c.index-lists-caller.result.items [] at) in
    record {
      text = listed (map (λ v. v.items) lists) k [] c.args.text.now.items c.loop-caller.text.items c.push_list.new.text.items
          (omega (arith, c.loop-caller-test.true, length-map lists (λ v. v.items))) c.loop-caller.invariant.text
          (c.in_ok-push_list.ensures.text ∙ ap (λ l. c.loop-caller.text.items ++ flat_map (said_line k) l) is);
      held = first_more IsListHeld (map (λ v. v.items) lists) k [] c.loop-caller.invariant.held
          (subst (λ (l : List Placed). IsListHeld l) is c.in_ok-push_list.ensures.held);
    }

pub returns-clause-text : goal.returns-clause-text
returns-clause-text c =
    c.loop-caller.invariant.text ∙ ap (λ l. c.args.text.now.items ++ said_text 0 l)
    (take_all c.loop-caller.caller (map (λ v. v.items) c.args.lists.now)
    (omega (arith, c.loop-caller-test.false, length-map c.args.lists.now (λ v. v.items))))

pub returns-clause-held : goal.returns-clause-held
returns-clause-held c =
    first_all IsListHeld (map (λ v. v.items) c.args.lists.now) c.loop-caller.caller
    (omega (arith, c.loop-caller-test.false, length-map c.args.lists.now (λ v. v.items))) c.loop-caller.invariant.held
