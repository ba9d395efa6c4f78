use Rattle.pp_devices.proofs.Tellings.{told}
use Rattle.pp_devices.proofs.telling.tell_line.Goals as goal

pub returns : goal.returns
returns g c = told _ _ _ _ _ _ c.write_text-told.result c.write_text-told.ensures.whole c.write_text-told.ensures.part
