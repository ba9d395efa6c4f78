use Rattle.std.proofs.Common.{◌<◌, length, take, get_or, ℕ, List, [], ◌∷◌, rules, arith, subst, sym, ◌∙◌}
use Rattle.std.proofs.lemmas.List.{take_more, length-take-le}
use Rattle.pp_model.specs.declared.Answer.TheVariants.{Said}
use Rattle.pp_model.specs.declared.Reply.TheVariants.{Value}
use Rattle.pp_model.specs.declared.Call.TheVariants.{Get}
use Rattle.pp_pieces.specs.Counts.{CountedIn, owned}
use Rattle.pp_pieces.proofs.Bytes.{room-left, owned-more, counted_in-more}
use Rattle.pp_pieces.proofs.counting.count_owned.Goals as goal

pub count_won-requires-clause-room : goal.count_won-requires-clause-room
count_won-requires-clause-room c = let t = c.loop-turn.turn in let calls = c.args.calls.now in let answers = c.args.answers.now in
    let less : t < length calls = search rules in let long = length-take-le t calls (omega arith) in let few = c.requires.few in
    λ b low. room-left c.args.counts.now c.loop-turn.counts c.args.bytes.now (take t calls) (take t answers) b c.loop-turn.invariant
    (omega (arith, long, few, less)) (c.requires.room b low) low

pub loop-turn-preserved : goal.loop-turn-preserved
loop-turn-preserved c = let t = c.loop-turn.turn in let calls = c.args.calls.now in let answers = c.args.answers.now in
    let less : t < length calls = search rules in let same = c.requires.answered in let more : t < length answers = omega arith in
    let x = get_or calls t (Get 0) in let y = get_or answers t (Said (Value 0)) in
    let a = length-take-le t calls (omega arith) in let b = length-take-le t answers (omega arith) in
    rw (take_more calls t (Get 0) less, take_more answers t (Said (Value 0)) more)
    (subst (λ (l : List ℕ). CountedIn c.args.counts.now c.count_won.new.counts c.args.bytes.now l)
    (sym (owned-more (take t calls) (take t answers) x y (a ∙ sym b)))
    (counted_in-more c.args.counts.now c.loop-turn.counts c.count_won.new.counts c.args.bytes.now
    (owned (take t calls) (take t answers)) (owned (x ∷ []) (y ∷ [])) c.loop-turn.invariant c.count_won.ensures))
