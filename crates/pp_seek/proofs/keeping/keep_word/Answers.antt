use Rattle.std.proofs.Common.{sym, ◌∙◌}
use Rattle.std.proofs.Math.Bool.{false≢true}
use Rattle.pp_base.specs.Passes.{known, view}
use Rattle.pp_base.proofs.Steady.{named_at}
use Rattle.pp_seek.proofs.Letting.{keeps_none, keeps_empty, keeps_cleared}
use Rattle.pp_seek.proofs.keeping.keep_word.Goals as goal

pub returns-clause-keeps : goal.returns-clause-keeps
returns-clause-keeps c = let pass = c.args.pass.now in
    keeps_cleared _ c.args.words c.args.word _ (view pass.seat) (view c.clear.new.pass.seat) pass.keeping.pass c.requires.word
    (λ is. false≢true (sym c.if-has.false ∙ c.has.ensures.1 is)) c.clear.ensures.made

pub returns-then-has-clause-keeps : goal.returns-then-has-clause-keeps
returns-then-has-clause-keeps c = keeps_none c.args.words c.args.word (view c.args.pass.now.seat) (c.has.ensures.0 c.if-has.true)

pub returns-then-pass-word-eq0-clause-keeps : goal.returns-then-pass-word-eq0-clause-keeps
returns-then-pass-word-eq0-clause-keeps c = let pass = c.args.pass.now in
    keeps_empty _ c.args.words c.args.word (view pass.seat) pass.keeping.pass c.requires.word
    (sym (named_at (known pass.seat).walk pass.walk c.args.word pass.keeping.walk_is) ∙ c.if-pass-word-eq0.true)
