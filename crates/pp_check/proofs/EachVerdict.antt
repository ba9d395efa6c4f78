-- Each text has a verdict: whether a log is sound and a list stands in it can be decided.
use Rattle.std.proofs.Common.{◌≡◌, ℕ, zero, suc, ◌+◌, ◌-◌, ◌<◌, ◌≤◌, ◌⊎◌, inl, inr, Bool, true, false, List, [], ◌∷◌, length}
use Rattle.std.proofs.Common.{Option, Some, None, refl, sym, ap, ap₂, ◌∙◌, ⊎_elim, arith, subst}
use Rattle.std.specs.Prelude.{slice_get}
use Rattle.std.proofs.lemmas.Bool.{true≢false, cases_lt, cases_eq, cases_Bool}
use Rattle.std.proofs.lemmas.Option.{slice_get_within, slice_get_cases}
use Rattle.pp_model.specs.declared.Call.{Call}
use Rattle.pp_model.specs.declared.Call.TheVariants.{Get, Insert, Remove, Cut}
use Rattle.pp_model.specs.declared.Reply.{Reply}
use Rattle.pp_model.specs.declared.Reply.TheVariants.{Value, Absent, Added, Held, Took, Other}
use Rattle.pp_model.specs.declared.Change.{Change}
use Rattle.pp_model.specs.declared.Placed.{Placed}
use Rattle.pp_model.specs.Calls.{key_of, reply, changes}
use Rattle.pp_model.specs.History.{after, Sound, change_of, FitsAsChange, FitsUnchanged, FitsBy, Fits, Follows, Stands}
use Rattle.pp_certificate.specs.Stages.{first_bad}
use Rattle.pp_certificate.specs.Certificates.{log_of, list_of}
use Rattle.pp_check.specs.declared.Verdict.{Verdict}
use Rattle.pp_check.specs.declared.Verdict.TheVariants.{Yes, BadLine, Unsound, Misplaced}
use Rattle.pp_check.specs.Histories.{SoundTo, IsUnsound, IsInPlace, InPlaceTo, HasNoChangeAt, LeavesOut, IsAmiss, IsMisplacedAt}
use Rattle.pp_check.specs.Histories.{IsMisplaced}
use Rattle.pp_check.specs.Verdicts.{IsVerdict, EachHasVerdict}
use Rattle.pp_check.proofs.Places.{HasListed}
use Rattle.pp_check.proofs.Standing.{stands_from}

abbrev Either : Type 0 → Type 0
Either P = P ⊎ (P → ⊥)

-- ---- replies and changes

-- a reply as two numbers, and back
kind_of : Reply → ℕ
kind_of (Value v) = 0
kind_of Absent = 1
kind_of Added = 2
kind_of (Held v) = 3
kind_of (Took v) = 4
kind_of (Other v) = 5

value_of : Reply → ℕ
value_of (Value v) = v
value_of Absent = 0
value_of Added = 0
value_of (Held v) = v
value_of (Took v) = v
value_of (Other v) = v

reply_of : ℕ → ℕ → Reply
reply_of zero v = Value v
reply_of (suc zero) v = Absent
reply_of (suc (suc zero)) v = Added
reply_of (suc (suc (suc zero))) v = Held v
reply_of (suc (suc (suc (suc zero)))) v = Took v
reply_of (suc (suc (suc (suc (suc n))))) v = Other v

reply_back : (a : Reply) → reply_of (kind_of a) (value_of a) ≡ a
unfolding kind_of value_of reply_of
reply_back (Value v) = refl
reply_back Absent = refl
reply_back Added = refl
reply_back (Held v) = refl
reply_back (Took v) = refl
reply_back (Other v) = refl

same_reply : (a b : Reply) → Either (a ≡ b)
same_reply a b =
    ⊎_elim
    (λ kind.
    ⊎_elim
    (λ value. inl (sym (reply_back a) ∙ ap₂ reply_of kind value ∙ reply_back b))
    (λ other. inr (λ e. other (ap value_of e)))
    (cases_eq (value_of a) (value_of b)))
    (λ other. inr (λ e. other (ap kind_of e)))
    (cases_eq (kind_of a) (kind_of b))

-- a call as three
word_of : Call → ℕ
word_of (Get k) = 0
word_of (Insert k v) = 1
word_of (Remove k) = 2
word_of (Cut k v) = 3

asked_of : Call → ℕ
asked_of (Get k) = 0
asked_of (Insert k v) = v
asked_of (Remove k) = 0
asked_of (Cut k v) = v

call_of : ℕ → ℕ → ℕ → Call
call_of zero k v = Get k
call_of (suc zero) k v = Insert k v
call_of (suc (suc zero)) k v = Remove k
call_of (suc (suc (suc n))) k v = Cut k v

call_back : (a : Call) → call_of (word_of a) (key_of a) (asked_of a) ≡ a
unfolding word_of asked_of call_of
call_back (Get k) = refl
call_back (Insert k v) = refl
call_back (Remove k) = refl
call_back (Cut k v) = refl

same_call : (a b : Call) → Either (a ≡ b)
same_call a b =
    ⊎_elim
    (λ word.
    ⊎_elim
    (λ key.
    ⊎_elim
    (λ value. inl (sym (call_back a) ∙ ap₂ (λ n k. call_of n k (asked_of a)) word key ∙ ap (call_of (word_of b) (key_of b)) value
    ∙ call_back b))
    (λ other. inr (λ e. other (ap asked_of e)))
    (cases_eq (asked_of a) (asked_of b)))
    (λ other. inr (λ e. other (ap key_of e)))
    (cases_eq (key_of a) (key_of b)))
    (λ other. inr (λ e. other (ap word_of e)))
    (cases_eq (word_of a) (word_of b))

same_change : (a b : Change) → Either (a ≡ b)
same_change a b =
    ⊎_elim
    (λ caller.
    ⊎_elim
    (λ number.
    ⊎_elim
    (λ call. inl (ap₂ (λ c n. change_of c n a.call) caller number ∙ ap (change_of b.caller b.number) call))
    (λ other. inr (λ e. other (ap (λ (x : Change). x.call) e)))
    (same_call a.call b.call))
    (λ other. inr (λ e. other (ap (λ (x : Change). x.number) e)))
    (cases_eq a.number b.number))
    (λ other. inr (λ e. other (ap (λ (x : Change). x.caller) e)))
    (cases_eq a.caller b.caller)

-- ---- one call

logged_so : (log : List Change) (p : ℕ) (c : Change) → Either (slice_get log p ≡ Some c)
logged_so log p c =
    ⊎_elim
    (λ there.
    ⊎_elim
    (λ same. inl (there.2 ∙ ap (λ (x : Change). Some x) same))
    (λ other. inr (λ e. other (let at = there.2 in cc)))
    (same_change there.0 c))
    (λ past. inr (λ e. let none = past.1 in let both : None ≡ Some c = sym none ∙ e in absurd cc))
    (slice_get_cases log p).1

change_fits : (log : List Change) (caller number before : ℕ) (s : Placed) → s.place ≡ before + 1 → Either (FitsAsChange log caller number s)
change_fits log caller number before s place =
    ⊎_elim
    (λ logged.
    ⊎_elim
    (λ right. inl (record { before = before; place = place; logged = logged; right = right }))
    (λ wrong. inr (λ fit.
    let same : fit.before ≡ before = omega (arith, fit.place) in
    wrong (ap (λ p. reply (after log p) s.call) (sym same) ∙ fit.right)))
    (same_reply (reply (after log before) s.call) s.reply))
    (λ other. inr (λ fit.
    let same : before ≡ fit.before = omega (arith, fit.place) in
    other (ap (slice_get log) same ∙ fit.logged)))
    (logged_so log before (change_of caller number s.call))

fits_change : (log : List Change) (caller number : ℕ) (s : Placed) → Either (FitsAsChange log caller number s)
fits_change log caller number s =
    ⊎_elim
    (λ none. inr (λ fit. omega (arith, fit.place)))
    (λ some. change_fits log caller number (s.place - 1) s (omega arith))
    (cases_eq s.place 0)

fits_still : (log : List Change) (s : Placed) → Either (FitsUnchanged log s)
fits_still log s =
    ⊎_elim
    (λ past. inr (λ fit. absurd (omega (arith, fit.within))))
    (λ within.
    ⊎_elim
    (λ right. inl (record { within = within; right = right }))
    (λ wrong. inr (λ fit. wrong fit.right))
    (same_reply (reply (after log s.place) s.call) s.reply))
    (cases_lt (length log) s.place)

fits_by : (change : Bool) (log : List Change) (caller number : ℕ) (s : Placed) → Either (FitsBy change log caller number s)
fits_by true log caller number s = fits_change log caller number s
fits_by false log caller number s = fits_still log s

fits_so : (log : List Change) (caller number : ℕ) (s : Placed) → Either (Fits log caller number s)
fits_so log caller number s = fits_by (changes s.reply) log caller number s

follows_so : (s t : Placed) → Either (Follows s t)
follows_so s t =
    ⊎_elim
    (λ above. inl (record { rises = omega arith; above = λ changed. above }))
    (λ not_above.
    ⊎_elim
    (λ changed. inr (λ f. absurd (omega (arith, f.above changed))))
    (λ still.
    ⊎_elim
    (λ below. inr (λ f. absurd (omega (arith, f.rises))))
    (λ rises. inl (record { rises = rises; above = λ changed. absurd (true≢false (sym changed ∙ still)) }))
    (cases_lt t.place s.place))
    (cases_Bool (changes t.reply)))
    (cases_lt s.place t.place)

follows_before : (mine : List Placed) (n : ℕ) (s : Placed)
    → Either ((m : ℕ) (t : Placed) → n ≡ m + 1 → slice_get mine m ≡ Some t → Follows t s)
follows_before mine n s =
    ⊎_elim
    (λ first. inl (λ m t is at. absurd (omega arith)))
    (λ later.
    ⊎_elim
    (λ there.
    ⊎_elim
    (λ yes. inl (λ m t is at.
    let same : n - 1 ≡ m = omega arith in
    let was : slice_get mine m ≡ Some there.0 = ap (slice_get mine) (sym same) ∙ there.2 in
    let call : there.0 ≡ t = cc in
    subst (λ (x : Placed). Follows x s) call yes))
    (λ no. inr (λ all. no (all (n - 1) there.0 (omega arith) there.2)))
    (follows_so there.0 s))
    (λ past. inl (λ m t is at. absurd (omega (arith, slice_get_within mine m t at, past.0))))
    (slice_get_cases mine (n - 1)).1)
    (cases_eq n 0)

in_place_so : (log : List Change) (caller : ℕ) (mine : List Placed) (n : ℕ) (s : Placed) → Either (IsInPlace log caller mine n s)
in_place_so log caller mine n s =
    ⊎_elim
    (λ fits.
    ⊎_elim
    (λ follows. inl (record { fits = fits; follows = follows }))
    (λ no. inr (λ is. no is.follows))
    (follows_before mine n s))
    (λ no. inr (λ is. no is.fits))
    (fits_so log caller (n + 1) s)

-- ---- a log, a list, and all lists

sound_so : (log : List Change) (n : ℕ) → n ≤ length log → SoundTo log n ⊎ ((p : ℕ) × IsUnsound log p)
sound_so log zero within = inl (λ q c lt at. absurd (omega arith))
sound_so log (suc n) within =
    ⊎_elim
    (λ so_far.
    ⊎_elim
    (λ there.
    ⊎_elim
    (λ yes. inl (λ q c lt at.
    ⊎_elim
    (λ (less : q < n). so_far q c less at)
    (λ (last : n ≤ q).
    let same : n ≡ q = omega arith in
    let is : there.0 ≡ c = let here = ap (slice_get log) (sym same) ∙ there.2 in cc in
    subst (λ k. changes (reply (after log k) c.call) ≡ true) same
    (subst (λ (x : Change). changes (reply (after log n) x.call) ≡ true) is yes))
    (cases_lt q n)))
    (λ no. inr (n + 1, record { before = n; number = refl; sound = so_far; made = there.0; logged = there.2; still = no }))
    (cases_Bool (changes (reply (after log n) (there.0).call))))
    (λ past. absurd (omega (arith, past.0)))
    (slice_get_cases log n).1)
    (λ found. inr found)
    (sound_so log n (omega arith))

placed_so : (log : List Change) (caller : ℕ) (mine : List Placed) (n : ℕ) → n ≤ length mine
    → InPlaceTo log caller mine n ⊎ ((number : ℕ) × IsAmiss log caller mine number)
placed_so log caller mine zero within = inl (λ m s lt at. absurd (omega arith))
placed_so log caller mine (suc n) within =
    ⊎_elim
    (λ so_far.
    ⊎_elim
    (λ there.
    ⊎_elim
    (λ yes. inl (λ m s lt at.
    ⊎_elim
    (λ (less : m < n). so_far m s less at)
    (λ (last : n ≤ m).
    let same : n ≡ m = omega arith in
    let is : there.0 ≡ s = let here = ap (slice_get mine) (sym same) ∙ there.2 in cc in
    subst (λ k. IsInPlace log caller mine k s) same (subst (λ (x : Placed). IsInPlace log caller mine n x) is yes))
    (cases_lt m n)))
    (λ no. inr (n + 1, record { position = n; number_is = refl; before = so_far; call = there.0; listed = there.2; amiss = no }))
    (in_place_so log caller mine n there.0))
    (λ past. absurd (omega (arith, past.0)))
    (slice_get_cases mine n).1)
    (λ found. inr found)
    (placed_so log caller mine n (omega arith))

listed_so : (mine : List Placed) (place : ℕ) → HasListed mine place ⊎ HasNoChangeAt mine place
listed_so [] place = inr (λ n s at changed is. absurd cc)
listed_so (s ∷ mine) place =
    ⊎_elim
    (λ has. inl (record { position = suc has.position; call = has.call; listed = has.listed; changed = has.changed; is = has.is }))
    (λ none.
    ⊎_elim
    (λ changed.
    ⊎_elim
    (λ is. inl (record { position = 0; call = s; listed = refl; changed = changed; is = is }))
    (λ other. inr (no_first none (λ change is. other is)))
    (cases_eq s.place place))
    (λ still. inr (no_first none (λ change is. true≢false (sym change ∙ still))))
    (cases_Bool (changes s.reply)))
    (listed_so mine place)
  where
    no_first : HasNoChangeAt mine place → (changes s.reply ≡ true → s.place ≡ place → ⊥) → HasNoChangeAt (s ∷ mine) place
    no_first none here zero t at changed is =
        let same : t ≡ s = cc in
        here (ap (λ (x : Placed). changes x.reply) (sym same) ∙ changed) (ap (λ (x : Placed). x.place) (sym same) ∙ is)
    no_first none here (suc n) t at changed is = none n t at changed is

AllListedTo : List Change → ℕ → List Placed → ℕ → Type 0
AllListedTo log caller mine n = (p : ℕ) (c : Change) → p < n → slice_get log p ≡ Some c → c.caller ≡ caller → HasListed mine (p + 1)

all_listed_so : (log : List Change) (caller : ℕ) (mine : List Placed) (n : ℕ) → n ≤ length log
    → AllListedTo log caller mine n ⊎ LeavesOut log caller mine
unfolding AllListedTo
all_listed_so log caller mine zero within = inl (λ p c lt at its. absurd (omega arith))
all_listed_so log caller mine (suc n) within =
    ⊎_elim
    (λ so_far.
    ⊎_elim
    (λ has. inl (λ p c lt at its.
    ⊎_elim
    (λ (less : p < n). so_far p c less at its)
    (λ (last : n ≤ p). let same : n ≡ p = omega arith in subst (λ k. HasListed mine (k + 1)) same has)
    (cases_lt p n)))
    (λ none.
    ⊎_elim
    (λ there.
    ⊎_elim
    (λ its. inr (record { before = n; change = there.0; logged = there.2; its = its; unlisted = none }))
    (λ other. inl (λ p c lt at its.
    ⊎_elim
    (λ (less : p < n). so_far p c less at its)
    (λ (last : n ≤ p).
    let same : n ≡ p = omega arith in
    let is : there.0 ≡ c = let here = ap (slice_get log) (sym same) ∙ there.2 in cc in
    absurd (other (ap (λ (x : Change). x.caller) is ∙ its)))
    (cases_lt p n)))
    (cases_eq (there.0).caller caller))
    (λ past. absurd (omega (arith, past.0)))
    (slice_get_cases log n).1)
    (listed_so mine (n + 1)))
    (λ out. inr out)
    (all_listed_so log caller mine n (omega arith))

stands_so : (log : List Change) (caller : ℕ) (mine : List Placed) → Stands log caller mine ⊎ ((n : ℕ) × IsMisplacedAt log caller mine n)
unfolding AllListedTo
stands_so log caller mine =
    ⊎_elim
    (λ all.
    ⊎_elim
    (λ listed. inl (stands_from log caller mine all (λ p c at its. listed p c (slice_get_within log p c at) at its)))
    (λ out. inr (length mine + 1, inr (record { number_is = refl; all = all; left_out = out })))
    (all_listed_so log caller mine (length log) (omega arith)))
    (λ found. inr (found.0, inl found.1))
    (placed_so log caller mine (length mine) (omega arith))

record FoundMisplaced (log : List Change) (lists : ℕ → List Placed) : Type 0 where
  caller : ℕ
  number : ℕ
  is : IsMisplaced log lists caller number

all_stand_so : (log : List Change) (lists : ℕ → List Placed) (n : ℕ) → n ≤ 64
    → ((c : ℕ) → c < n → Stands log c (lists c)) ⊎ FoundMisplaced log lists
all_stand_so log lists zero within = inl (λ c lt. absurd (omega arith))
all_stand_so log lists (suc n) within =
    ⊎_elim
    (λ so_far.
    ⊎_elim
    (λ stands. inl (λ c lt.
    ⊎_elim
    (λ (less : c < n). so_far c less)
    (λ (last : n ≤ c). let same : n ≡ c = omega arith in subst (λ k. Stands log k (lists k)) same stands)
    (cases_lt c n)))
    (λ found. inr (record { caller = n; number = found.0; is = record { known = omega arith; stand = so_far; at = found.1 } }))
    (stands_so log n (lists n)))
    (λ found. inr found)
    (all_stand_so log lists n (omega arith))

-- ---- a text

each_by : (text : List ℕ) (first : Option ℕ) → first_bad text ≡ first → (v : Verdict) × IsVerdict text v
each_by text (Some line) is = (BadLine line, is)
each_by text None is =
    let log = log_of text in
    let lists = list_of text in
    ⊎_elim
    (λ to_end.
    let sound : Sound log = λ p c at. to_end p c (slice_get_within log p c at) at in
    ⊎_elim
    (λ stand. (Yes, (is, (sound, stand))))
    (λ found. (Misplaced found.caller found.number, (is, (sound, found.is))))
    (all_stand_so log lists 64 (omega arith)))
    (λ found. (Unsound found.0, (is, found.1)))
    (sound_so log (length log) (omega arith))

pub each_has_verdict : EachHasVerdict
each_has_verdict text = each_by text (first_bad text) refl
