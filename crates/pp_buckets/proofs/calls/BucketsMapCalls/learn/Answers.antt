use Rattle.std.proofs.Common.{ℕ, sym, ◌∙◌, subst}
use Rattle.pp_model.specs.MapCalls.{Learns}
use Rattle.pp_base.specs.declared.purse.Purse.{Purse}
use Rattle.pp_base.specs.Passes.{view}
use Rattle.pp_calls.specs.PoolViews.{pool_view}
use Rattle.pp_calls.proofs.Purses.{same_share, has_own}
use Rattle.pp_ends.specs.Ends.{note_in}
use Rattle.pp_ends.proofs.Learning.{learns, calls_learnt}
use Rattle.pp_turns.specs.Turns.{BegunAt}
use Rattle.pp_turns.proofs.Answering.{begun_on}
use Rattle.pp_walk.proofs.Lone.{sees_of}
use Rattle.pp_list.proofs.LoneGoing.{lone_learnt}
use Rattle.pp_buckets.specs.Tables.{IsGoing}
use Rattle.pp_buckets.proofs.Learning.{under_learnt}
use Rattle.pp_buckets.proofs.calls.BucketsMapCalls.learn.Goals as goal

pub returns-clause-belongs : goal.returns-clause-belongs
returns-clause-belongs c = let old = c.args.pass.now in let new = c.learn.new.pass in let same = c.learn.ensures.same in
    let l = c.learn.ensures.learnt in let b = c.requires.belongs in record {
      fits = record { table_is = same.table_is ∙ b.fits.table_is; sizes = same.sizes ∙ b.fits.sizes };
      stands = calls_learnt (view old.seat) (view new.seat) l.known_is l.order l.steps l.placed
          (has_own 0 _ _ new.seat new.keeping.lone new.run) b.stands;
    }

pub returns-clause-going : goal.returns-clause-going
returns-clause-going c = λ g before b. let z = c.args.self.now.pool.layout in let old = c.args.pass.now in let new = c.learn.new.pass in
    let l = c.learn.ensures.learnt in let v = view old.seat in let w = view new.seat in
    let share = same_share 0 1 old.seat new.seat _ _ _ _ _ _ _ _ old.keeping new.keeping c.learn.ensures.same in
    let sees = sees_of z old.seat _ _ _ _ old.keeping old.run c.requires.belongs.fits.sizes in
    let then = sees_of z new.seat _ _ _ _ new.keeping new.run (c.learn.ensures.same.sizes ∙ c.requires.belongs.fits.sizes) in
    subst (λ (n : ℕ). BegunAt n (IsGoing z n g w new.purse) before) (sym share)
    (subst (λ (p : Purse). BegunAt old.share (IsGoing z old.share g w p) before) (sym c.learn.ensures.purse)
    (begun_on old.share (IsGoing z old.share g v old.purse) (IsGoing z old.share g w old.purse)
    (λ from free x. (
      under_learnt z old.share from v w l.known_is l.order l.steps l.placed g old.purse free x.0,
      lone_learnt z g from v w sees then l.known_is l.order l.steps x.1,
    )) before b))

pub returns-clause-learnt : goal.returns-clause-learnt
returns-clause-learnt c = let old = c.args.pass.now in let new = c.learn.new.pass in let note = c.args.note in
    let share = same_share 0 1 old.seat new.seat _ _ _ _ _ _ _ _ old.keeping new.keeping c.learn.ensures.same in
    subst (λ (n : ℕ). Learns (note_in (view note.seat)) (pool_view (view old.seat) old.purse.free.items old.share)
    (pool_view (view new.seat) new.purse.free.items n)) (sym share)
    (subst (λ (p : Purse). Learns (note_in (view note.seat)) (pool_view (view old.seat) old.purse.free.items old.share)
    (pool_view (view new.seat) p.free.items old.share)) (sym c.learn.ensures.purse)
    (learns note.seat old.seat new.seat old.purse.free.items old.share c.learn.ensures.learnt))
