use Rattle.std.proofs.Common.{◌<◌, length, take, get_or, ℕ, List, [], ◌∷◌, rules, arith, subst, sym, ◌∙◌}
use Rattle.std.proofs.lemmas.List.{take_more, length-take-le}
use Rattle.pp_model.specs.declared.Answer.TheVariants.{Said}
use Rattle.pp_model.specs.declared.Call.TheVariants.{Get}
use Rattle.pp_model.specs.declared.Reply.TheVariants.{Value}
use Rattle.pp_pieces.specs.Counts.{owned}
use Rattle.pp_pieces.specs.Left.{Marked}
use Rattle.pp_pieces.proofs.Bytes.{owned-more}
use Rattle.pp_pieces.proofs.Marks.{marked-none, marked-more}
use Rattle.pp_pieces.proofs.leaving.mark_owned.Goals as goal

pub loop-turn-init : goal.loop-turn-init
loop-turn-init c = marked-none c.args.taken.now

pub loop-turn-preserved : goal.loop-turn-preserved
loop-turn-preserved c = let t = c.loop-turn.turn in let calls = c.args.calls.now in let answers = c.args.answers.now in
    let less : t < length calls = search rules in let same = c.requires.answered in let more : t < length answers = omega arith in
    let x = get_or calls t (Get 0) in let y = get_or answers t (Said (Value 0)) in
    let a = length-take-le t calls (omega arith) in let b = length-take-le t answers (omega arith) in
    rw (take_more calls t (Get 0) less, take_more answers t (Said (Value 0)) more)
    (subst (λ (l : List ℕ). Marked c.args.taken.now c.mark_won.new.taken l)
    (sym (owned-more (take t calls) (take t answers) x y (a ∙ sym b)))
    (marked-more c.args.taken.now c.loop-turn.taken c.mark_won.new.taken (owned (take t calls) (take t answers))
    (owned (x ∷ []) (y ∷ [])) c.loop-turn.invariant c.mark_won.ensures))
