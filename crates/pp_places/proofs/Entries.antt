-- A run's log, entered call by call.
use Rattle.std.proofs.Common.{◌≡◌, ℕ, zero, suc, ◌+◌, ◌-◌, ◌^◌, ◌<◌, ◌≤◌, Bool, true, false, List, [], ◌∷◌, length, map, drop}
use Rattle.std.proofs.Common.{Some, ⊎_elim, ◌⊎◌, inl, inr, refl, sym, ap, ◌∙◌, subst, arith, get_or}
use Rattle.std.specs.Prelude.{slice_get}
use Rattle.std.proofs.lemmas.Bool.{cases_eq, cases_lt, true≢false}
use Rattle.std.proofs.lemmas.List.{drop_more, length-drop}
use Rattle.std.proofs.lemmas.Option.{slice_get_within, get_or_from_slice_get}
use Rattle.pp_model.specs.declared.Call.{Call}
use Rattle.pp_model.specs.declared.Reply.{Reply}
use Rattle.pp_model.specs.declared.Answer.{Answer}
use Rattle.pp_model.specs.declared.Answer.TheVariants.{Said, Full, Lost}
use Rattle.pp_model.specs.declared.Change.{Change}
use Rattle.pp_model.specs.declared.Placed.{Placed}
use Rattle.pp_model.specs.Calls.{changes}
use Rattle.pp_model.specs.History.{change_of, Stands, FitsBy, FitsAsChange}
use Rattle.pp_schedule.specs.Calls.{capped, all_capped}
use Rattle.pp_schedule.specs.Marks.{MarkPlaces, MarkedAs, none, said, full, lost}
use Rattle.pp_schedule.proofs.Marking.{Unplaced}
use Rattle.pp_check.specs.Histories.{IsChangeAt}
use Rattle.pp_check.proofs.Standing.{in_place_from, has_all, listed_number}
use Rattle.pp_places.specs.Places.{HasEntered, EntersOn, earlier, among_first, IsEntry}

-- ---- calls with their marks

pub capped_low : (m : ℕ) → capped m < 2 ^ 64 - 1 → capped m ≡ m
capped_low m low = omega (arith, low)

pub marked_lengths : (log : List Change) (calls : List Call) (answers : List Answer) (marks : List ℕ) (mine : List Placed)
    → MarkedAs log calls answers marks mine → (length answers ≡ length calls) × (length marks ≡ length calls)
marked_lengths log _ _ _ _ none = (refl, refl)
marked_lengths log _ _ _ _ (said c r m s calls answers marks mine is more) =
    let l = marked_lengths log calls answers marks mine more in (ap suc l.0, ap suc l.1)
marked_lengths log _ _ _ _ (full c m calls answers marks mine more) =
    let l = marked_lengths log calls answers marks mine more in (ap suc l.0, ap suc l.1)
marked_lengths log _ _ _ _ (lost c turns m calls answers marks mine more) =
    let l = marked_lengths log calls answers marks mine more in (ap suc l.0, ap suc l.1)

pub record NextSaid (log : List Change) (c : Call) (r : Reply) (m : ℕ) (calls : List Call) (answers : List Answer) (marks : List ℕ)
    (mine : List Placed) : Type 0 where
  pub first : Placed
  pub rest : List Placed
  pub is : mine ≡ first ∷ rest
  pub placed : MarkPlaces log c r m first
  pub more : MarkedAs log calls answers marks rest

pub next_said : (log : List Change) (c : Call) (r : Reply) (m : ℕ) (calls : List Call) (answers : List Answer) (marks : List ℕ)
    (mine : List Placed) → MarkedAs log (c ∷ calls) (Said r ∷ answers) (m ∷ marks) mine → NextSaid log c r m calls answers marks mine
next_said log c r m calls answers marks _ (said _ _ _ s _ _ _ rest is more) =
    record { first = s; rest = rest; is = refl; placed = is; more = more }

pub next_other : (log : List Change) (c : Call) (a : Answer) (m : ℕ) (calls : List Call) (answers : List Answer) (marks : List ℕ)
    (mine : List Placed) → Unplaced a → MarkedAs log (c ∷ calls) (a ∷ answers) (m ∷ marks) mine → MarkedAs log calls answers marks mine
next_other log c (Said r) m calls answers marks mine un is = absurd un
next_other log c Full m calls answers marks mine un (full _ _ _ _ _ _ more) = more
next_other log c (Lost turns) m calls answers marks mine un (lost _ _ _ _ _ _ _ more) = more

pub none_left : (log : List Change) (answers : List Answer) (marks : List ℕ) (mine : List Placed) → MarkedAs log [] answers marks mine
    → mine ≡ []
none_left log _ _ _ none = refl

pub drop_at : {A : Type 0} → (xs : List A) (k : ℕ) (x : A) → slice_get xs k ≡ Some x → drop k xs ≡ x ∷ drop (k + 1) xs
drop_at xs k x at = drop_more xs k x (slice_get_within xs k x at) ∙ ap (λ y. y ∷ drop (k + 1) xs) (get_or_from_slice_get xs k x x at)

pub first_dropped : {A : Type 0} → (xs : List A) (k : ℕ) (x : A) (rest : List A) → drop k xs ≡ x ∷ rest
    → (slice_get xs k ≡ Some x) × (drop (k + 1) xs ≡ rest)
first_dropped [] zero x rest e = absurd (cc)
first_dropped [] (suc k) x rest e = absurd (cc)
first_dropped (y ∷ xs) zero x rest e = let same : y ≡ x = cc in let more : xs ≡ rest = cc in (ap (λ z. Some z) same, more)
first_dropped (y ∷ xs) (suc k) x rest e =
    let h = first_dropped xs k x rest e in
    let next : suc k + 1 ≡ suc (k + 1) = omega arith in
    (h.0, ap (λ j. drop j (y ∷ xs)) next ∙ h.1)

-- lists that agree wherever the longer one has an element
pub same_lists : {A : Type 0} → (xs ys : List A) → length xs ≤ length ys
    → ((p : ℕ) (y : A) → slice_get ys p ≡ Some y → slice_get xs p ≡ Some y) → xs ≡ ys
same_lists [] [] le each = refl
same_lists [] (y ∷ ys) le each = absurd (let e = each 0 y refl in cc)
same_lists (x ∷ xs) [] le each = absurd (omega (arith, le))
same_lists (x ∷ xs) (y ∷ ys) le each =
    let e = each 0 y refl in
    let same : x ≡ y = cc in
    ap (λ z. z ∷ xs) same ∙ ap (λ zs. y ∷ zs) (same_lists xs ys (omega (arith, le)) (λ p z at. each (suc p) z at))

-- ---- one caller

module _ (whole : List Change) (caller : ℕ) (mine : List Placed) (stands : Stands whole caller mine) where
  -- a change of the caller is its placed call of that number
  is_listed : (p : ℕ) (c : Change) → slice_get whole p ≡ Some c → c.caller ≡ caller → IsChangeAt mine c.number (p + 1)
  is_listed p c at its =
      listed_number whole caller mine (λ n s low is. in_place_from whole caller mine stands n s is) p c at
      (has_all whole caller mine stands p c at its)

  pub enters_first : (calls : List Call) (answers : List Answer) (exact : List ℕ) (log : List Change)
      → MarkedAs whole calls answers exact mine → HasEntered whole (earlier caller) log
      → EntersOn whole caller mine calls answers exact 0 log
  enters_first calls answers exact log marked had = record {
    marked = marked;
    entered = record {
      within = had.within;
      each = λ p c at so.
          ⊎_elim
          (λ (low : c.caller < caller). had.each p c at low)
          (λ (own : (c.caller ≡ caller) × (c.number ≤ 0)).
          let is = is_listed p c at own.0 in
          let n = is.number_is in
          absurd (omega (arith, n, own.1)))
          so;
    };
  }

  pub enters_last : (answers : List Answer) (exact : List ℕ) (number : ℕ) (log : List Change)
      → EntersOn whole caller mine [] answers exact number log → HasEntered whole (earlier (caller + 1)) log
  enters_last answers exact number log e =
      let all : drop number mine ≡ [] = none_left whole answers exact (drop number mine) e.marked in
      let many : length mine - number ≡ 0 = sym (length-drop number mine) ∙ ap length all in
      record {
        within = e.entered.within;
        each = λ p c at low.
            ⊎_elim
            (λ (lower : c.caller < caller). e.entered.each p c at (inl lower))
            (λ (ge : caller ≤ c.caller).
            let own : c.caller ≡ caller = omega (arith, ge, low) in
            let is = is_listed p c at own in
            let n = is.number_is in
            let w = slice_get_within mine is.position is.call is.listed in
            e.entered.each p c at (inr (own, omega (arith, n, w, many))))
            (cases_lt c.caller caller);
      }

  pub enters_other : (call : Call) (a : Answer) (m : ℕ) (calls : List Call) (answers : List Answer) (exact : List ℕ) (number : ℕ)
      (log : List Change) → Unplaced a → EntersOn whole caller mine (call ∷ calls) (a ∷ answers) (m ∷ exact) number log
      → EntersOn whole caller mine calls answers exact number log
  enters_other call a m calls answers exact number log un e = record {
    marked = next_other whole call a m calls answers exact (drop number mine) un e.marked;
    entered = e.entered;
  }

  module _ (call : Call) (r : Reply) (m : ℕ) (calls : List Call) (answers : List Answer) (exact : List ℕ) (number : ℕ) (log : List Change)
      (e : EntersOn whole caller mine (call ∷ calls) (Said r ∷ answers) (m ∷ exact) number log) where
    abbrev next : NextSaid whole call r m calls answers exact (drop number mine)
    next = next_said whole call r m calls answers exact (drop number mine) e.marked

    dropped : (slice_get mine number ≡ Some next.first) × (drop (number + 1) mine ≡ next.rest)
    dropped = first_dropped mine number next.first next.rest next.is

    more : MarkedAs whole calls answers exact (drop (number + 1) mine)
    more = subst (λ (l : List Placed). MarkedAs whole calls answers exact l) (sym dropped.1) next.more

    -- the change of this number is this call's
    is_this : (p : ℕ) (c : Change) → slice_get whole p ≡ Some c → c.caller ≡ caller → c.number ≡ number + 1
        → (changes r ≡ true) × (m ≡ p + 1)
    is_this p c at its n =
        let is = is_listed p c at its in
        let k = is.number_is in
        let position : number ≡ is.position = omega (arith, n, k) in
        let same : next.first ≡ is.call =
        let at_this : slice_get mine is.position ≡ Some next.first = ap (slice_get mine) (sym position) ∙ dropped.0 in
        let at_that = is.listed in cc in
        let changed : changes r ≡ true = ap changes (sym next.placed.reply_is) ∙ (ap (λ (s : Placed). changes s.reply) same ∙ is.changed) in
        (changed, sym (next.placed.change changed) ∙ (ap (λ (s : Placed). s.place) same ∙ is.place_is))

    -- a change among the first so many and one is among the first so many, or is this call's
    among : (p : ℕ) (c : Change) → slice_get whole p ≡ Some c → among_first caller (number + 1) c
        → among_first caller number c ⊎ ((changes r ≡ true) × (m ≡ p + 1))
    among p c at so =
        ⊎_elim
        (λ (low : c.caller < caller). inl (inl low))
        (λ (own : (c.caller ≡ caller) × (c.number ≤ number + 1)).
        ⊎_elim
        (λ (lt : c.number < number + 1). inl (inr (own.0, omega (arith, lt))))
        (λ (ge : number + 1 ≤ c.number). inr (is_this p c at own.0 (omega (arith, ge, own.1))))
        (cases_lt c.number (number + 1)))
        so

    pub enters_unchanged : changes r ≡ false → EntersOn whole caller mine calls answers exact (number + 1) log
    enters_unchanged not = record {
      marked = more;
      entered = record {
        within = e.entered.within;
        each = λ p c at so.
            ⊎_elim
            (λ (old : among_first caller number c). e.entered.each p c at old)
            (λ (new : (changes r ≡ true) × (m ≡ p + 1)). absurd (true≢false (sym new.0 ∙ not)))
            (among p c at so);
      };
    }

    fits_as_change : (b : Bool) → b ≡ true → FitsBy b whole caller (number + 1) next.first
        → FitsAsChange whole caller (number + 1) next.first
    fits_as_change true is fits = fits
    fits_as_change false is fits = absurd (true≢false (sym is))

    pub enters_change : changes r ≡ true → (mark : ℕ) → mark ≡ capped m → (log' : List Change)
        → (1 ≤ mark → IsEntry log mark (change_of caller (number + 1) call) log')
        → EntersOn whole caller mine calls answers exact (number + 1) log'
    enters_change changed mark mark_is log' entry =
        let first_changed : changes next.first.reply ≡ true = ap changes next.placed.reply_is ∙ changed in
        let fits = fits_as_change (changes next.first.reply) first_changed (stands.each number next.first dropped.0) in
        let place : m ≡ fits.before + 1 = sym (next.placed.change changed) ∙ fits.place in
        let some : 1 ≤ mark = omega (arith, mark_is, place) in
        let is = entry some in
        let held = is.held in
        let exactly : mark ≡ m = omega (arith, mark_is, held) in
        let inside = next.placed.within in
        let own_place = next.placed.change changed in
        record {
          marked = more;
          entered = record {
            within = let l = is.longer in let w = e.entered.within in omega (arith, l, w, exactly, inside, own_place);
            each = λ p c at so.
                ⊎_elim
                (λ (here : p + 1 ≡ mark).
                let same_p : p ≡ fits.before = omega (arith, here, exactly, place) in
                let to_p : mark - 1 ≡ p = omega (arith, here) in
                let logged : slice_get whole p ≡ Some (change_of caller (number + 1) next.first.call) =
                ap (slice_get whole) same_p ∙ fits.logged in
                let same_c : change_of caller (number + 1) next.first.call ≡ c = cc in
                ap (slice_get log') (sym to_p)
                ∙ (is.here ∙ ap (λ (x : Call). Some (change_of caller (number + 1) x)) (sym next.placed.call_is)
                ∙ ap (λ (x : Change). Some x) same_c))
                (λ (there : p + 1 ≡ mark → ⊥).
                is.others p c there
                (⊎_elim
                (λ (old : among_first caller number c). e.entered.each p c at old)
                (λ (new : (changes r ≡ true) × (m ≡ p + 1)). absurd (there (omega (arith, exactly, new.1))))
                (among p c at so)))
                (cases_eq (p + 1) mark);
          };
        }

-- ---- a caller's calls at their positions

-- the call at a position, with its answer and its mark, and what comes after them
pub record IsNext (calls : List Call) (answers : List Answer) (marks exact : List ℕ) (at : ℕ) (x : Call) (a : Answer) (k : ℕ) : Type 0 where
  pub mark : ℕ
  pub is_mark : get_or marks at k ≡ capped mark
  pub calls_are : drop at calls ≡ get_or calls at x ∷ drop (at + 1) calls
  pub answers_are : drop at answers ≡ get_or answers at a ∷ drop (at + 1) answers
  pub exact_are : drop at exact ≡ mark ∷ drop (at + 1) exact

mapped_or : (ns : List ℕ) (at k j : ℕ) → at < length ns → get_or (map capped ns) at k ≡ capped (get_or ns at j)
mapped_or [] at k j low = absurd (omega (arith, low))
mapped_or (n ∷ ns) zero k j low = refl
mapped_or (n ∷ ns) (suc at) k j low = mapped_or ns at k j (omega (arith, low))

pub is_next : (log : List Change) (mine : List Placed) (calls : List Call) (answers : List Answer) (marks exact : List ℕ) (at : ℕ)
    (x : Call) (a : Answer) (k : ℕ) → at < length calls → MarkedAs log calls answers exact mine → marks ≡ all_capped exact
    → IsNext calls answers marks exact at x a k
is_next log mine calls answers marks exact at x a k low marked are =
    let l = marked_lengths log calls answers exact mine marked in
    record {
      mark = get_or exact at 0;
      is_mark = ap (λ ns. get_or ns at k) are ∙ mapped_or exact at k 0 (omega (arith, low, l.1));
      calls_are = drop_more calls at x low;
      answers_are = drop_more answers at a (omega (arith, low, l.0));
      exact_are = drop_more exact at 0 (omega (arith, low, l.1));
    }

pub enters_more : (whole : List Change) (caller : ℕ) (mine : List Placed) (calls : List Call) (answers : List Answer)
    (marks exact : List ℕ) (at : ℕ) (x : Call) (a : Answer) (k number now : ℕ) (log log' : List Change) → at < length calls
    → MarkedAs whole calls answers exact mine → marks ≡ all_capped exact
    → ((calls' : List Call) (answers' : List Answer) (exact' : List ℕ) (m : ℕ) → get_or marks at k ≡ capped m
    → EntersOn whole caller mine (get_or calls at x ∷ calls') (get_or answers at a ∷ answers') (m ∷ exact') number log
    → EntersOn whole caller mine calls' answers' exact' now log')
    → EntersOn whole caller mine (drop at calls) (drop at answers) (drop at exact) number log
    → EntersOn whole caller mine (drop (at + 1) calls) (drop (at + 1) answers) (drop (at + 1) exact) now log'
enters_more whole caller mine calls answers marks exact at x a k number now log log' low marked are entered e =
    let n = is_next whole mine calls answers marks exact at x a k low marked are in
    entered (drop (at + 1) calls) (drop (at + 1) answers) (drop (at + 1) exact) n.mark n.is_mark
    (subst (λ (cs : List Call). EntersOn whole caller mine cs (get_or answers at a ∷ drop (at + 1) answers)
    (n.mark ∷ drop (at + 1) exact) number log) n.calls_are
    (subst (λ (given : List Answer). EntersOn whole caller mine (drop at calls) given (n.mark ∷ drop (at + 1) exact) number log)
    n.answers_are (subst (λ (ms : List ℕ). EntersOn whole caller mine (drop at calls) (drop at answers) ms number log) n.exact_are e)))

pub entered_all : (whole : List Change) (callers : ℕ) (log : List Change) → HasEntered whole (earlier callers) log
    → ((p : ℕ) (c : Change) → slice_get whole p ≡ Some c → c.caller < callers) → log ≡ whole
entered_all whole callers log e known = same_lists log whole e.within (λ p c at. e.each p c at (known p c at))
