use Rattle.std.proofs.Common.{ℕ, ◌/◌, ◌%◌, ◌^◌, refl, ap, subst}
use Rattle.pp_base.specs.Passes.{view}
use Rattle.pp_link.specs.Links.{word_of}
use Rattle.pp_link.specs.declared.layout.Field.TheVariants as fields
use Rattle.pp_base.specs.Made.{WroteOwned}
use Rattle.pp_queue.proofs.Filling.{filled, fill_lists, fill_idles, both_halves}
use Rattle.pp_queue.proofs.records.fill.Goals as goal
use Rattle.pp_queue.proofs.Finding.{up_made, up_on}

pub returns-clause-has : goal.returns-clause-has
returns-clause-has c = let w = c.set_value.ensures.wrote in let pass = c.set_link.new.pass in
    let linked = subst (λ (x : ℕ). WroteOwned c.args.pool.now.layout c.args.fresh.now.number fields.Left x
    c.set_value.new.pass.seat pass.seat)
    (ap word_of c.pack.ensures) c.set_link.ensures.wrote in
    filled (view c.args.pass.now.seat) (view w.middle) (view c.set_value.new.pass.seat) (view pass.seat) c.args.fresh.now.number
    (c.args.value % 2 ^ 64) (c.args.value / 2 ^ 64) _ _ _ w.low w.high linked c.args.pass.now.keeping.pass.owned_once
    c.set_value.new.pass.keeping.pass.owned_once pass.purse c.args.value c.set_link.ensures.private (both_halves c.args.value)

pub returns-clause-idles : goal.returns-clause-idles
returns-clause-idles c = let w = c.set_value.ensures.wrote in let pass = c.set_link.new.pass in
    let linked = subst (λ (x : ℕ). WroteOwned c.args.pool.now.layout c.args.fresh.now.number fields.Left x
    c.set_value.new.pass.seat pass.seat)
    (ap word_of c.pack.ensures) c.set_link.ensures.wrote in
    fill_idles (view c.args.pass.now.seat) (view w.middle) (view c.set_value.new.pass.seat)
    (view pass.seat) c.args.fresh.now.number
    (c.args.value % 2 ^ 64) (c.args.value / 2 ^ 64) _ _ _ w.low w.high linked c.args.pass.now.keeping.pass.owned_once
    c.set_value.new.pass.keeping.pass.owned_once c.args.pool.now.layout.passes

pub returns-clause-lists : goal.returns-clause-lists
returns-clause-lists c = let w = c.set_value.ensures.wrote in let pass = c.set_link.new.pass in
    let linked = subst (λ (x : ℕ). WroteOwned c.args.pool.now.layout c.args.fresh.now.number fields.Left x
    c.set_value.new.pass.seat pass.seat)
    (ap word_of c.pack.ensures) c.set_link.ensures.wrote in
    fill_lists (view c.args.pass.now.seat) (view w.middle) (view c.set_value.new.pass.seat)
    (view pass.seat) c.args.fresh.now.number
    (c.args.value % 2 ^ 64) (c.args.value / 2 ^ 64) _ _ _ w.low w.high linked c.args.pass.now.keeping.pass.owned_once
    c.set_value.new.pass.keeping.pass.owned_once

pub returns-clause-up : goal.returns-clause-up
returns-clause-up c = let w = c.set_value.ensures.wrote in let v0 = view c.args.pass.now.seat in let v1 = view w.middle in
    let v2 = view c.set_value.new.pass.seat in let v3 = view c.set_link.new.pass.seat in
    up_on v0.known v1.known v3.known (up_made v0 v1 w.low.made refl)
    (up_on v1.known v2.known v3.known (up_made v1 v2 w.high.made refl) (up_made v2 v3 c.set_link.ensures.wrote.made refl))
