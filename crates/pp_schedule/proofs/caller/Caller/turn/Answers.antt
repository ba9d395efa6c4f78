use Rattle.std.proofs.Common.{◌≡◌, ℕ, [], ◌∷◌, ◌++◌, Some, None, map, drop, refl, sym, Bool}
use Rattle.std.specs.Prelude.{is_some}
use Rattle.std.proofs.lemmas.List.{map-append}
use Rattle.std.proofs.Common.{ap, ◌∙◌}
use Rattle.pp_model.specs.Pass.{GoingView}
use Rattle.pp_schedule.specs.Calls.{CallerAt, Doing, rests, calls_on, done}
use Rattle.pp_schedule.specs.Calls.{on as leaves_on, Marks, capped, count_after, mark_after}
use Rattle.pp_schedule.specs.declared.caller.Marked.{Marked}
use Rattle.pp_schedule.proofs.Shown.{calling_belongs, calling_struck, calling_some, on_shown}
use Rattle.pp_schedule.proofs.caller.Caller.turn.Goals as goal

pub poll_after-requires-clause-calling : goal.poll_after-requires-clause-calling
poll_after-requires-clause-calling g c =
    let v = c.requires.shows in
    let h = c.present-future.ensures.has v.0 v.1 v.2 in
    (v.0.pass, h.0, h.1, rw c.present-future.ensures.map h.2)

pub poll_after-requires-clause-learnable : goal.poll_after-requires-clause-learnable
poll_after-requires-clause-learnable g c =
    let v = c.requires.shows in
    rw c.present-future.ensures.map (c.present-future.ensures.learnable c.args.note c.requires.learnable v.0 v.1)

pub note_of-note-requires : goal.note_of-note-requires
note_of-note-requires g c =
    let v = c.requires.shows in
    let h = c.present-future.ensures.has v.0 v.1 v.2 in
    let p = c.in-Pending.ensures.on v.0.pass h.0 h.1 (rw c.present-future.ensures.map h.2) in
    rw c.poll_after.ensures.map (calling_belongs _ _ _ _ _ _ _ _ p.3)

pub struck-was-requires : goal.struck-was-requires
struck-was-requires g c =
    let v = c.requires.shows in
    let h = c.present-future.ensures.has v.0 v.1 v.2 in
    calling_some _ _ _ _ _ _ _ _ h.2

pub struck-now-requires : goal.struck-now-requires
struck-now-requires g c =
    let v = c.requires.shows in
    let h = c.present-future.ensures.has v.0 v.1 v.2 in
    let p = c.in-Pending.ensures.on v.0.pass h.0 h.1 (rw c.present-future.ensures.map h.2) in
    calling_some _ _ _ _ _ _ _ _ p.3

-- what the program's counts are of a turn
marked_turn : (v w : CallerAt) (going now : GoingView) (n : ℕ) (begun was is : Bool) → begun ≡ is_some v.doing → was ≡ going.struck
    → is ≡ now.struck → w.mark ≡ mark_after begun was is (count_after was is n) v.mark
    → ((d : Doing) → w.doing ≡ Some d → w.marks ≡ v.marks) → (w.doing ≡ None → w.marks ≡ v.marks ++ w.mark ∷ [])
    → Marks going now n (count_after was is n) v w
marked_turn v w going now n begun was is on_so was_so is_so mark goes answered = record {
  counts = ap (λ b. count_after b is n) was_so ∙ ap (λ b. count_after going.struck b n) is_so;
  mark = mark ∙ ap (λ b. mark_after b was is (count_after was is n) v.mark) on_so
      ∙ ap (λ b. mark_after (is_some v.doing) b is (count_after was is n) v.mark) was_so
      ∙ ap (λ b. mark_after (is_some v.doing) going.struck b (count_after was is n) v.mark) is_so;
  goes_on = goes;
  answered = answered;
}

marked_on : (v w : CallerAt) (d : Doing) (going now : GoingView) (n : ℕ) (begun was is : Bool) → begun ≡ is_some v.doing
    → was ≡ going.struck → is ≡ now.struck → w.mark ≡ mark_after begun was is (count_after was is n) v.mark
    → w.doing ≡ Some d → w.marks ≡ v.marks → Marks going now n (count_after was is n) v w
marked_on v w d going now n begun was is on_so was_so is_so mark stays same =
    marked_turn v w going now n begun was is on_so was_so is_so mark (λ e at. same) (λ none. absurd (let e = sym stays ∙ none in cc))

marked_done : (v w : CallerAt) (going now : GoingView) (n : ℕ) (begun was is : Bool) → begun ≡ is_some v.doing
    → was ≡ going.struck → is ≡ now.struck → w.mark ≡ mark_after begun was is (count_after was is n) v.mark
    → w.doing ≡ None → w.marks ≡ v.marks ++ w.mark ∷ [] → Marks going now n (count_after was is n) v w
marked_done v w going now n begun was is on_so was_so is_so mark over same =
    marked_turn v w going now n begun was is on_so was_so is_so mark (λ e at. absurd (let f = sym over ∙ at in cc)) (λ none. same)

pub returns-in-Pending-clause-shows : goal.returns-in-Pending-clause-shows
returns-in-Pending-clause-shows g c = λ v shows calls answers marks mark n counted.
    let h = c.present-future.ensures.has v shows calls in
    let p = c.in-Pending.ensures.on v.pass h.0 h.1 (rw c.present-future.ensures.map h.2) in
    let noted = c.note_of-note.ensures.noted p.2 p.1 h.1 (rw c.poll_after.ensures.map p.3) in
    let noted' = rw (c.poll_after.ensures.map, c.present-future.ensures.map) at noted.0 in
    let on_counted = rw c.present-future.ensures.map at p.6 in
    let begun = c.is_some-on.result in
    let was = c.struck-was.result in
    let is = c.struck-now.result in
    let on_so : begun ≡ is_some v.doing = c.is_some-on.ensures ∙ on_shown _ _ _ _ _ _ v _ _ shows in
    let was_so : was ≡ h.0.struck = calling_struck _ _ _ _ _ _ _ _ was h.2 c.struck-was.ensures in
    let is_so : is ≡ p.1.struck = calling_struck _ _ _ _ _ _ _ _ is p.3 c.struck-now.ensures in
    let d : Doing = record { going = p.1; before = h.1 } in
    let w : CallerAt = record {
      pass = p.2;
      doing = Some d;
      calls = drop c.present-future.new.self.next c.present-future.new.self.calls.items;
      answers = v.answers;
      mark = mark_after begun was is (count_after was is n) v.mark;
      marks = v.marks;
    } in (
      w,
      rw c.present-future.ensures.taken.0 (calls_on c.note_of-note.new.future d refl noted'),
      refl,
      answers ∙ ap (λ x. map (λ (a : Marked). a.answer) x.items) (sym c.present-future.ensures.answers),
      marks ∙ ap (λ x. map (λ (a : Marked). a.mark) x.items) (sym c.present-future.ensures.answers),
      sym (c.mark_turn-self.ensures (count_after was is n) v.mark (c.count_turn-changes.ensures n counted)
          (c.present-future.ensures.mark ∙ sym mark)),
      (
        record {
          going = h.0;
          before = h.1;
          has = h.3;
          ready = p.0;
          learnt = p.4;
          now = p.1;
          turn = p.5;
          leaves = leaves_on refl refl
              on_counted;
        },
        noted.1,
        count_after was is n,
        c.count_turn-changes.ensures n counted,
        marked_on v w d h.0 p.1 n begun was is on_so was_so is_so refl refl refl,
      ),
    )

pub returns-in-Ready-clause-shows : goal.returns-in-Ready-clause-shows
returns-in-Ready-clause-shows g c = λ v shows calls answers marks mark n counted.
    let h = c.present-future.ensures.has v shows calls in
    let ends = c.in-Ready.ensures.done in
    let p = ends.2 v.pass h.0 h.1 (rw c.present-future.ensures.map h.2) in
    let noted = c.note-note.ensures in
    let begun = c.is_some-on.result in
    let was = c.struck-was.result in
    let is = c.took_effect-now.result in
    let on_so : begun ≡ is_some v.doing = c.is_some-on.ensures ∙ on_shown _ _ _ _ _ _ v _ _ shows in
    let was_so : was ≡ h.0.struck = calling_struck _ _ _ _ _ _ _ _ was h.2 c.struck-was.ensures in
    let is_so : is ≡ p.2.now.struck = c.took_effect-now.ensures ∙ sym p.2.struck in
    let now_mark = mark_after begun was is (count_after was is n) v.mark in
    let marked = c.mark_turn-self-in-Ready.ensures (count_after was is n) v.mark (c.count_turn-changes-in-Ready.ensures n counted)
    (c.present-future.ensures.mark ∙ sym mark) in
    let one : Marked = record { answer = c.in-Ready.spoken.answer; mark = c.mark_turn-self-in-Ready.result } in
    let all = c.enter.ensures.items ∙ ap (λ xs. xs.items ++ one ∷ []) c.present-future.ensures.answers in
    let made = rw c.present-future.ensures.map at p.3 in
    let w : CallerAt = record {
      pass = g.M.MapCalls.pass_view c.note-note.new.pass;
      doing = None;
      calls = drop c.present-future.new.self.next c.present-future.new.self.calls.items;
      answers = v.answers ++ c.in-Ready.spoken.answer ∷ [];
      mark = now_mark;
      marks = v.marks ++ now_mark ∷ [];
    } in (
      w,
      rw c.present-future.ensures.taken.1 (rests c.note-note.new.pass noted.belongs (noted.idle ends.1) refl refl),
      refl,
      ap (λ xs. xs ++ c.in-Ready.spoken.answer ∷ []) answers
          ∙ sym (ap (map (λ (a : Marked). a.answer)) all ∙ map-append (λ (a : Marked). a.answer) c.args.self.now.answers.items (one ∷ [])),
      map-append capped v.marks (now_mark ∷ []) ∙ (ap (λ xs. xs ++ capped now_mark ∷ []) marks
          ∙ (ap (λ k. map (λ (a : Marked). a.mark) c.args.self.now.answers.items ++ k ∷ []) (sym marked)
          ∙ sym (ap (map (λ (a : Marked). a.mark)) all ∙ map-append (λ (a : Marked). a.mark) c.args.self.now.answers.items (one ∷ [])))),
      sym marked,
      (
        record {
          going = h.0;
          before = h.1;
          has = h.3;
          ready = p.0;
          learnt = p.1;
          now = p.2.now;
          turn = rw noted.same p.2.turn;
          leaves = done c.in-Ready.spoken.answer refl refl p.2.struck (rw noted.same made);
        },
        noted.noted,
        count_after was is n,
        c.count_turn-changes-in-Ready.ensures n counted,
        marked_done v w h.0 p.2.now n begun was is on_so was_so is_so refl refl refl,
      ),
    )
