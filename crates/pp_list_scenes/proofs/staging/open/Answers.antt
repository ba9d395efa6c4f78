use Rattle.pp_list_scenes.proofs.staging.open.Goals as goal

pub returns : goal.returns
returns g c = let s = c.in-Ok.ensures in record {
  ready = λ k p at. record { member = s.belong k p at; resting = s.rest k p at };
}
