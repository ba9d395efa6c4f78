use Rattle.pp_poll.proofs.printing.show.Goals as goal

pub returns-then-places-clause-shown : goal.returns-then-places-clause-shown
returns-then-places-clause-shown g c = λ run placed same. rw c.if-places.true (c.show_certificate.ensures.shown run placed)

pub returns-then-places-clause-held : goal.returns-then-places-clause-held
returns-then-places-clause-held g c = λ run placed not. rw c.if-places.true (c.show_certificate.ensures.held run placed not)

pub returns-else-places-clause-shown : goal.returns-else-places-clause-shown
returns-else-places-clause-shown g c = λ run placed same. rw c.if-places.false (rw same at c.finish.ensures)

pub returns-else-places-clause-held : goal.returns-else-places-clause-held
returns-else-places-clause-held g c = λ run placed not. rw c.if-places.false tt
