use Rattle.pp_model.proofs.plain.PlainPass.answer.Goals as goal

pub returns-in-Some : goal.returns-in-Some
returns-in-Some c = rw c.in-Get.is c.in-Some.ensures

pub returns-in-None : goal.returns-in-None
returns-in-None c = rw c.in-Get.is c.in-None.ensures

pub returns-in-Ok-Added : goal.returns-in-Ok-Added
returns-in-Ok-Added c = rw c.in-Insert.is (rw c.in-Ok-Added.field-0-is at c.in-Ok-Added.ensures)

pub returns-in-Ok-Held : goal.returns-in-Ok-Held
returns-in-Ok-Held c = rw c.in-Insert.is (rw c.in-Ok-Held.field-0-is at c.in-Ok-Held.ensures)

pub returns-in-Err-Full : goal.returns-in-Err-Full
returns-in-Err-Full c = rw c.in-Insert.is (rw c.in-Err-Full.field-0-is at c.in-Err-Full.ensures)

pub returns-in-Some-remove : goal.returns-in-Some-remove
returns-in-Some-remove c = rw c.in-Remove.is c.in-Some-remove.ensures

pub returns-in-None-remove : goal.returns-in-None-remove
returns-in-None-remove c = rw c.in-Remove.is c.in-None-remove.ensures

pub returns-in-Took : goal.returns-in-Took
returns-in-Took c = rw c.in-Cut.is c.in-Took.ensures

pub returns-in-Other : goal.returns-in-Other
returns-in-Other c = rw c.in-Cut.is c.in-Other.ensures

pub returns-in-Absent : goal.returns-in-Absent
returns-in-Absent c = rw c.in-Cut.is c.in-Absent.ensures
