-- What contracts see of a pass of the plain map, and what always holds of its fields.
use Rattle.std.specs.Prelude.{◌≡◌, ◌≤◌, length, vec_capacity}
use Rattle.pp_model.specs.declared.plain.PlainPass.TheInside.{Inside}
use Rattle.pp_model.specs.Pass.{PassView}
use Rattle.pp_model.specs.Plain.{plain_pass, PlainHolds, log_of}

abbrev pub plain_view : Inside → PassView
plain_view pass = plain_pass pass.records pass.calls pass.pairs.items pass.placed.items

pub record PlainIsWhole (pass : Inside) : Type 0 where
  pub holds : PlainHolds pass.records pass.calls pass.pairs.items pass.placed.items
  pub counted : pass.changes ≡ length (log_of pass.placed.items)
  pub pairs_room : pass.records ≤ vec_capacity pass.pairs
  pub calls_room : pass.calls ≤ vec_capacity pass.placed
