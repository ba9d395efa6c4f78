use Rattle.std.proofs.Common.{◌∙◌}
use Rattle.pp_pool.proofs.Closings.{popped, lone_same, last_of, last_left, bare_after, rest_one, rest_more}
use Rattle.pp_pool.proofs.closing.join_all.Goals as goal

pub loop-pass-init : goal.loop-pass-init
loop-pass-init g c = let p = c.in-Some.last in let s = c.into_seat-seat.result in
    let lone = lone_same p.seat s c.into_seat-seat.ensures p.keeping.lone in
    let is = popped (λ p. p.seat) _ c.pop.new.self.items p s c.in-Some.ensures.items c.into_seat-seat.ensures in record {
      table = (last_of _ c.args.pool.now.layout _ _ s is c.requires.each).0.table_is;
      bare = lone.0;
      joined = rest_one _ _ s lone is;
    }

pub join_seat-requires-clause-table : goal.join_seat-requires-clause-table
join_seat-requires-clause-table g c = let p = c.in-Some-pop.pass in let s = c.into_seat-next.result in
    let is = popped (λ p. p.seat) _ c.pop-in-loop-pass.new.self.items p s c.in-Some-pop.ensures.items c.into_seat-next.ensures in
    (last_left _ c.args.pool.now.layout _ _ _ s _ is c.loop-pass.invariant.joined c.requires.each).0.table_is

pub loop-pass-preserved : goal.loop-pass-preserved
loop-pass-preserved g c = let p = c.in-Some-pop.pass in let s = c.into_seat-next.result in let j = c.join_seat.ensures in
    let is = popped (λ p. p.seat) _ c.pop-in-loop-pass.new.self.items p s c.in-Some-pop.ensures.items c.into_seat-next.ensures in record {
      table = j.table ∙ (last_left _ c.args.pool.now.layout _ _ _ s _ is c.loop-pass.invariant.joined c.requires.each).0.table_is;
      bare = bare_after c.join_seat.new.seat.me _ j.joined;
      joined = rest_more _ _ _ s c.loop-pass.seat.me.0 c.join_seat.new.seat.me
          (lone_same p.seat s c.into_seat-next.ensures p.keeping.lone) is j.joined c.loop-pass.invariant.joined;
    }
