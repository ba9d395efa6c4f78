-- A call on a list as it begins.
use Rattle.std.specs.Prelude.{◌≡◌, ℕ, ◌<◌, true, false, None}
use Rattle.pp_link.specs.declared.layout.Sizes.{Sizes}
use Rattle.pp_model.specs.declared.Call.{Call}
use Rattle.pp_model.specs.declared.Call.TheVariants.{Get, Insert, Remove, Cut}
use Rattle.pp_model.specs.Calls.{key_of}
use Rattle.pp_lists.specs.Lists.{ListPass}
use Rattle.pp_lists.specs.Walks.{bucket}
use Rattle.pp_walk.specs.declared.walk.Walk.{Walk}
use Rattle.pp_walk.specs.Roles.{IsWalk}
use Rattle.pp_walk.specs.Words.{AllEmpty}
use Rattle.pp_list.specs.declared.going.ListGoing.{ListGoing}
use Rattle.pp_list.specs.declared.going.ListOp.{ListOp}
use Rattle.pp_list.specs.declared.going.ListOp.TheVariants as op
use Rattle.pp_list.specs.declared.going.Next.TheVariants.{Walks}

-- the call that does this with its key
abbrev pub call_of : ℕ → ListOp → Call
call_of key op.Get = Get key
call_of key (op.Insert v) = Insert key v
call_of key op.Remove = Remove key
call_of key (op.Cut v) = Cut key v

-- A call is begun. Its first turn is that of its walk, on any pass whose walk words are empty.
pub record BeginsOn (head : ℕ) (call : Call) (races : ℕ) (g : ListGoing) : Type 0 where
  pub head_is : g.head ≡ head
  pub call_is : g.call ≡ call
  pub races_are : g.races ≡ races
  pub lost : g.lost ≡ 0
  pub struck : g.struck ≡ false
  pub fresh : g.fresh ≡ None
  pub walk : Walk
  pub next : g.next ≡ Walks walk
  pub walk_call : walk.call ≡ call
  pub walk_fresh : walk.fresh ≡ true
  pub walks : (z : Sizes) (q : ListPass) → head < z.heads → head ≡ bucket z.heads (key_of call) → AllEmpty q → IsWalk z q walk
