-- What an entered call leaves of a pass of the plain map.
use Rattle.std.proofs.Common.{◌≡◌, ℕ, zero, suc, ◌+◌, ◌-◌, ◌<◌, ◌≤◌, true, false, eqb, List, [], ◌∷◌, ◌++◌, length}
use Rattle.std.proofs.Common.{take, drop, Some, None, ⊎_elim, inl, refl, sym, ap, ◌∙◌, subst, arith, length-append}
use Rattle.std.proofs.Common.{append-nil, take-append-drop, eq-eqb, ne_eqb}
use Rattle.std.specs.Prelude.{slice_get}
use Rattle.std.proofs.lemmas.Bool.{cases_Bool, cases_eq, cases_lt, true≢false}
use Rattle.pp_model.specs.declared.Call.{Call}
use Rattle.pp_model.specs.declared.Call.TheVariants.{Get, Insert, Remove, Cut}
use Rattle.pp_model.specs.declared.Reply.{Reply}
use Rattle.pp_model.specs.declared.Reply.TheVariants.{Value, Absent, Added, Held, Took, Other}
use Rattle.pp_model.specs.declared.Answer.{Answer}
use Rattle.pp_model.specs.declared.Answer.TheVariants.{Said, Full}
use Rattle.pp_model.specs.declared.Change.{Change}
use Rattle.pp_model.specs.declared.Placed.{Placed}
use Rattle.pp_model.specs.declared.Pair.{Pair}
use Rattle.pp_model.specs.Lists.{upto, times, RisesFrom, IsPrefix, AtEach}
use Rattle.pp_model.specs.FiniteMap.{find, KeysRise}
use Rattle.pp_model.specs.Calls.{reply, map_after, changes, Takes, removes, cuts}
use Rattle.pp_model.specs.History.{contents_of, Sound, change_of, FitsUnchanged, Stands}
use Rattle.pp_model.specs.Pass.{PassView, MapSizes, CallerRun, steps_of}
use Rattle.pp_model.specs.MapCalls.{Grew, Answered, AnswersCall, Learns, LeavesPurse, Tidied, IsClosing, AreNumbers}
use Rattle.pp_model.specs.MapCalls.{caller_run, placed}
use Rattle.pp_model.specs.Plain.{changes_from, log_of, plain_pass, PlainHolds, plain_meaning, plain_sizes, PlainAnswers, IsPlainAnswer}
use Rattle.pp_model.specs.Plain.{plain_run, plain_note, PlainLearnable, PlainBelongs}
use Rattle.pp_model.proofs.Histories.{stands_unchanged, stands_change, sound_change, contents_push, after_all, fits_within}

pub changes_from-push : (n : ℕ) (mine : List Placed) (s : Placed)
    → changes_from n (mine ++ s ∷ []) ≡ changes_from n mine ++ changes_from (n + length mine) (s ∷ [])
changes_from-push n [] s = ap (λ k. changes_from k (s ∷ [])) (omega arith)
changes_from-push n (t ∷ mine) s =
    let e : n + 1 + length mine ≡ n + suc (length mine) = omega arith in
    let ih = changes_from-push (n + 1) mine s ∙ ap (λ k. changes_from (n + 1) mine ++ changes_from k (s ∷ [])) e in
    ⊎_elim
    (λ test. rw test (ap (λ xs. change_of 0 n t.call ∷ xs) ih))
    (λ test. rw test ih)
    (cases_Bool (changes t.reply))

-- a call that changed nothing leaves the log
pub log_unchanged : (mine : List Placed) (s : Placed) → changes s.reply ≡ false → log_of (mine ++ s ∷ []) ≡ log_of mine
log_unchanged mine s none =
    let nothing : changes_from (1 + length mine) (s ∷ []) ≡ [] = rw none refl in
    changes_from-push 1 mine s ∙ (ap (λ xs. log_of mine ++ xs) nothing ∙ append-nil (log_of mine))

-- a change comes at the log's end
pub log_change : (mine : List Placed) (s : Placed) → changes s.reply ≡ true
    → log_of (mine ++ s ∷ []) ≡ log_of mine ++ change_of 0 (length mine + 1) s.call ∷ []
log_change mine s changed =
    let number : 1 + length mine ≡ length mine + 1 = omega arith in
    let one : changes_from (1 + length mine) (s ∷ []) ≡ change_of 0 (1 + length mine) s.call ∷ [] = rw changed refl in
    changes_from-push 1 mine s ∙ ap (λ xs. log_of mine ++ xs) (one ∙ ap (λ k. change_of 0 k s.call ∷ []) number)

pub length-changes_from : (n : ℕ) (mine : List Placed) → length (changes_from n mine) ≤ length mine
length-changes_from n [] = omega arith
length-changes_from n (s ∷ mine) =
    let ih = length-changes_from (n + 1) mine in
    ⊎_elim (λ test. rw test (omega arith)) (λ test. rw test (omega arith)) (cases_Bool (changes s.reply))

pub length-upto : (low n : ℕ) → length (upto low n) ≡ n
length-upto low zero = refl
length-upto low (suc n) = ap suc (length-upto (low + 1) n)

upto-suc : (low n : ℕ) → upto low (suc n) ≡ upto low n ++ (low + n) ∷ []
upto-suc low zero = ap (λ k. k ∷ []) (omega arith)
upto-suc low (suc n) =
    let e : low + 1 + n ≡ low + suc n = omega arith in
    ap (λ ks. low ∷ ks) (upto-suc (low + 1) n ∙ ap (λ k. upto (low + 1) n ++ k ∷ []) e)

-- one more number
pub upto-push : (low n m : ℕ) → m ≡ n + 1 → upto low m ≡ upto low n ++ (low + n) ∷ []
upto-push low n m is = let e : m ≡ suc n = omega arith in ap (upto low) e ∙ upto-suc low n

times_below : (n low k : ℕ) → n < low → times n (upto low k) ≡ 0
times_below n low zero l = refl
times_below n low (suc k) l =
    let other : eqb low n ≡ false = ne_eqb low n (λ e. omega arith) in
    rw other (times_below n (low + 1) k (omega arith))

times_above : (n low k : ℕ) → low + k ≤ n → times n (upto low k) ≡ 0
times_above n low zero l = refl
times_above n low (suc k) l =
    let other : eqb low n ≡ false = ne_eqb low n (λ e. omega arith) in
    rw other (times_above n (low + 1) k (omega arith))

times_within : (n low k : ℕ) → low ≤ n → n < low + k → times n (upto low k) ≡ 1
times_within n low zero le l = absurd (omega arith)
times_within n low (suc k) le l =
    ⊎_elim
    (λ same. let test : eqb low n ≡ true = eq-eqb low n same in rw test (omega (arith, times_below n (low + 1) k (omega arith))))
    (λ other. let test : eqb low n ≡ false = ne_eqb low n other in rw test (times_within n (low + 1) k (omega arith) (omega arith)))
    (cases_eq low n)

RisesFrom-upto : (a low k : ℕ) → a ≤ low → RisesFrom a (upto low k)
RisesFrom-upto a low zero le = tt
RisesFrom-upto a low (suc k) le = (le, RisesFrom-upto (low + 1) (low + 1) k (omega arith))

-- the numbers up to a first one and those above it, up to the last
plain_numbers : (records n : ℕ) → n ≤ records → AreNumbers records (upto 1 n) (upto (n + 1) (records - n))
plain_numbers records n le = record {
  each_once = λ i low high.
      ⊎_elim
      (λ (l : i < n + 1). omega (arith, times_within i 1 n low (omega arith), times_below i (n + 1) (records - n) l))
      (λ (g : n + 1 ≤ i). omega (arith, times_above i 1 n (omega arith), times_within i (n + 1) (records - n) g (omega arith)))
      (cases_lt i (n + 1));
  no_other = λ i outside.
      ⊎_elim
      (λ (none : i ≡ 0). omega (arith, times_below i 1 n (omega arith), times_below i (n + 1) (records - n) (omega arith)))
      (λ (high : records < i). omega (arith, times_above i 1 n (omega arith), times_above i (n + 1) (records - n) (omega arith)))
      outside;
  free_rise = RisesFrom-upto 0 (n + 1) (records - n) (omega arith);
}

first_caller : (n : ℕ) (call : Call) (rest : List Change) → ((p : ℕ) (c : Change) → slice_get rest p ≡ Some c → c.caller ≡ 0)
    → (p : ℕ) (c : Change) → slice_get (change_of 0 n call ∷ rest) p ≡ Some c → c.caller ≡ 0
first_caller n call rest others zero c e = let is : change_of 0 n call ≡ c = cc in ap (λ (x : Change). x.caller) (sym is)
first_caller n call rest others (suc p) c e = others p c e

-- each change of the plain map is its one caller's
plain_callers : (n : ℕ) (mine : List Placed) (p : ℕ) (c : Change) → slice_get (changes_from n mine) p ≡ Some c → c.caller ≡ 0
plain_callers n [] p c e = absurd cc
plain_callers n (s ∷ mine) p c e =
    ⊎_elim
    (λ test. first_caller n s.call (changes_from (n + 1) mine) (plain_callers (n + 1) mine) p c (rw test at e))
    (λ test. plain_callers (n + 1) mine p c (rw test at e))
    (cases_Bool (changes s.reply))

module _ (records calls : ℕ) (pairs : List Pair) (mine : List Placed) (holds : PlainHolds records calls pairs mine)
    (room : length mine < calls) (call : Call) (r : Reply) (right : reply pairs call ≡ r) where
  -- a call that changed nothing
  pub holds_unchanged : changes r ≡ false → PlainHolds records calls pairs (mine ++ placed call r (length (log_of mine)) ∷ [])
  holds_unchanged none =
      let s = placed call r (length (log_of mine)) in
      let log = log_unchanged mine s none in
      let fits : FitsUnchanged (log_of mine) s = record {
        within = omega arith;
        right = ap (λ m. reply m call) (after_all (log_of mine) ∙ sym holds.contents) ∙ right;
      } in
      let stands : Stands (log_of mine) 0 (mine ++ s ∷ []) =
      stands_unchanged (log_of mine) 0 mine s holds.stands none fits
      (λ i t e. fits_within (log_of mine) 0 (i + 1) t (holds.stands.each i t e)) in
      record {
        contents = holds.contents ∙ ap contents_of (sym log);
        rises = holds.rises;
        stands = subst (λ l. Stands l 0 (mine ++ s ∷ [])) (sym log) stands;
        sound = subst Sound (sym log) holds.sound;
        pairs_fit = holds.pairs_fit;
        calls_fit = omega (arith, length-append mine (s ∷ []));
      }

  -- a call that changed the pairs
  pub holds_change : (pairs' : List Pair) → changes r ≡ true → pairs' ≡ map_after pairs call → KeysRise pairs'
      → length pairs' ≤ records
      → PlainHolds records calls pairs' (mine ++ placed call r (length (log_of mine) + 1) ∷ [])
  holds_change pairs' changed is rises fit =
      let s = placed call r (length (log_of mine) + 1) in
      let c = change_of 0 (length mine + 1) call in
      let log = log_change mine s changed in
      let right' : reply (contents_of (log_of mine)) call ≡ r = ap (λ m. reply m call) (sym holds.contents) ∙ right in
      let stands : Stands (log_of mine ++ c ∷ []) 0 (mine ++ s ∷ []) =
      stands_change (log_of mine) 0 mine s holds.stands changed right' refl in
      let sound : Sound (log_of mine ++ c ∷ []) = sound_change (log_of mine) c holds.sound (ap changes right' ∙ changed) in
      record {
        contents = is ∙ (ap (λ m. map_after m call) holds.contents ∙ (sym (contents_push (log_of mine) c) ∙ ap contents_of (sym log)));
        rises = rises;
        stands = subst (λ l. Stands l 0 (mine ++ s ∷ [])) (sym log) stands;
        sound = subst Sound (sym log) sound;
        pairs_fit = fit;
        calls_fit = omega (arith, length-append mine (s ∷ []));
      }

-- a pass's purse after an insert or a remove
plain_tidied : (records calls calls' spends : ℕ) (pairs pairs' : List Pair) (mine mine' : List Placed)
    → length pairs' ≤ length pairs + spends
    → Tidied plain_meaning (plain_sizes records) spends (plain_pass records calls pairs mine) (plain_pass records calls' pairs' mine')
plain_tidied records calls calls' spends pairs pairs' mine mine' le =
    let now = length-upto (length pairs' + 1) (records - length pairs') in
    let was = length-upto (length pairs + 1) (records - length pairs) in
    record {
      retired = omega arith;
      chains = omega arith;
      shared = inl (omega (arith, now));
      kept = omega (arith, now, was);
    }

plain_purse : (records calls : ℕ) (call : Call) (pairs : List Pair) (mine mine' : List Placed)
    → LeavesPurse plain_meaning (plain_sizes records) call (plain_pass records calls pairs mine) (plain_pass records calls pairs mine')
plain_purse records calls (Get k) pairs mine mine' = record { wrote = refl; free = refl; retired = refl; chains = refl }
plain_purse records calls (Insert k v) pairs mine mine' = plain_tidied records calls calls 1 pairs pairs mine mine' (omega arith)
plain_purse records calls (Remove k) pairs mine mine' = plain_tidied records calls calls 0 pairs pairs mine mine' (omega arith)
plain_purse records calls (Cut k v) pairs mine mine' = plain_tidied records calls calls 0 pairs pairs mine mine' (omega arith)

plain_answers_unchanged : (r : Reply) (records pairs : ℕ) → changes r ≡ false → PlainAnswers records pairs (Said r)
plain_answers_unchanged (Value v) records pairs none = tt
plain_answers_unchanged Absent records pairs none = tt
plain_answers_unchanged Added records pairs none = absurd (true≢false none)
plain_answers_unchanged (Held v) records pairs none = tt
plain_answers_unchanged (Took v) records pairs none = tt
plain_answers_unchanged (Other v) records pairs none = tt

plain_grew : (records calls : ℕ) (pairs pairs' : List Pair) (mine mine' : List Placed) → IsPrefix (log_of mine) (log_of mine')
    → IsPrefix mine mine' → length mine' ≤ length mine + 1
    → Grew (plain_pass records calls pairs mine) (plain_pass records calls pairs' mine')
plain_grew records calls pairs pairs' mine mine' seen entered le = record {
  caller = refl;
  share = refl;
  seen = seen;
  steps = ([], refl);
  order = ([], refl);
  wrote = omega arith;
  room = omega arith;
  own_steps = refl;
  seen_by = λ some. absurd (omega arith);
  saw = λ k s none. absurd cc;
  mine = entered;
}

module _ (records calls : ℕ) (pairs : List Pair) (mine : List Placed) (holds : PlainHolds records calls pairs mine)
    (room : length mine < calls) (call : Call) (r : Reply) (right : reply pairs call ≡ r) where
  -- A reply that changes nothing is entered at the log's end.
  pub answers_unchanged : changes r ≡ false → IsPlainAnswer call (plain_pass records calls pairs mine)
      (plain_pass records calls pairs (mine ++ placed call r (length (log_of mine)) ∷ [])) (Said r)
  answers_unchanged none budget left =
      let s = placed call r (length (log_of mine)) in
      let mine' = mine ++ s ∷ [] in
      let log = log_unchanged mine s none in
      let holds' = holds_unchanged records calls pairs mine holds room call r right none in
      record {
        grew = plain_grew records calls pairs pairs mine mine' ([], log ∙ sym (append-nil (log_of mine))) (s ∷ [], refl)
            (omega (arith, length-append mine (s ∷ [])));
        says = record {
          place = length (log_of mine);
          mine = refl;
          since = omega arith;
          within = omega (arith, ap length log);
          above = λ changed. absurd (true≢false (sym changed ∙ none));
          from_start = λ _. omega arith;
          least = λ _ q from below _. omega arith;
        };
        stands = holds'.stands;
        lost = left;
        cause = record { no_step = refl; seen = refl; answers = plain_answers_unchanged r records _ none };
        purse = plain_purse records calls call pairs mine mine';
        full = tt;
        stepped = omega arith;
        counted = refl;
      }

-- what a change leaves: an insert has one pair more, a remove one less
pub data IsPlainChange (pairs : List Pair) (records : ℕ) : Call → Reply → List Pair → Type 0 where
  adds : (k v : ℕ) (pairs' : List Pair) → length pairs < records → length pairs' ≡ length pairs + 1
      → IsPlainChange pairs records (Insert k v) Added pairs'
  takes : (call : Call) (k v : ℕ) (pairs' : List Pair) → Takes call k v → length pairs' + 1 ≡ length pairs
      → IsPlainChange pairs records call (Took v) pairs'

change_purse : (records calls : ℕ) (call : Call) (r : Reply) (pairs pairs' : List Pair) (mine mine' : List Placed)
    → IsPlainChange pairs records call r pairs'
    → LeavesPurse plain_meaning (plain_sizes records) call (plain_pass records calls pairs mine) (plain_pass records calls pairs' mine')
change_purse records calls call r pairs pairs' mine mine' (adds k v _ few more) =
    plain_tidied records calls calls 1 pairs pairs' mine mine' (omega arith)
change_purse records calls call r pairs pairs' mine mine' (takes _ k v _ (removes _ _) less) =
    plain_tidied records calls calls 0 pairs pairs' mine mine' (omega arith)
change_purse records calls call r pairs pairs' mine mine' (takes _ k v _ (cuts _ _) less) =
    plain_tidied records calls calls 0 pairs pairs' mine mine' (omega arith)

change_answers : (records : ℕ) (call : Call) (r : Reply) (pairs pairs' contents : List Pair) → pairs ≡ contents
    → IsPlainChange pairs records call r pairs' → PlainAnswers records (length contents) (Said r)
change_answers records call r pairs pairs' contents is (adds k v _ few more) = omega (arith, ap length is)
change_answers records call r pairs pairs' contents is (takes _ k v _ how less) = tt

change_changes : (records : ℕ) (call : Call) (r : Reply) (pairs pairs' : List Pair) → IsPlainChange pairs records call r pairs'
    → changes r ≡ true
change_changes records call r pairs pairs' (adds k v _ few more) = refl
change_changes records call r pairs pairs' (takes _ k v _ how less) = refl

change_fits : (records : ℕ) (call : Call) (r : Reply) (pairs pairs' : List Pair) → length pairs ≤ records
    → IsPlainChange pairs records call r pairs' → length pairs' ≤ records
change_fits records call r pairs pairs' fit (adds k v _ few more) = omega arith
change_fits records call r pairs pairs' fit (takes _ k v _ how less) = omega arith

module _ (records calls : ℕ) (pairs : List Pair) (mine : List Placed) (holds : PlainHolds records calls pairs mine)
    (room : length mine < calls) (call : Call) (r : Reply) (right : reply pairs call ≡ r)
    (pairs' : List Pair) (change : IsPlainChange pairs records call r pairs') (is : pairs' ≡ map_after pairs call)
    (rises : KeysRise pairs') where
  -- A reply that says a change is entered with it.
  pub holds_changed : PlainHolds records calls pairs' (mine ++ placed call r (length (log_of mine) + 1) ∷ [])
  holds_changed =
      holds_change records calls pairs mine holds room call r right pairs' (change_changes records call r pairs pairs' change) is rises
      (change_fits records call r pairs pairs' holds.pairs_fit change)

  pub answers_changed : IsPlainAnswer call (plain_pass records calls pairs mine)
      (plain_pass records calls pairs' (mine ++ placed call r (length (log_of mine) + 1) ∷ [])) (Said r)
  answers_changed budget left =
      let s = placed call r (length (log_of mine) + 1) in
      let mine' = mine ++ s ∷ [] in
      let changed = change_changes records call r pairs pairs' change in
      let log = log_change mine s changed in
      record {
        grew = plain_grew records calls pairs pairs' mine mine' (_, log) (s ∷ [], refl)
            (omega (arith, length-append mine (s ∷ [])));
        says = record {
          place = length (log_of mine) + 1;
          mine = refl;
          since = omega arith;
          within = omega (arith, ap length log, length-append (log_of mine) (change_of 0 (length mine + 1) call ∷ []));
          above = λ _. omega arith;
          from_start = λ none. absurd (true≢false (sym changed ∙ none));
          least = λ none q from below _. true≢false (sym changed ∙ none);
        };
        stands = holds_changed.stands;
        lost = left;
        cause = record {
          no_step = refl;
          seen = refl;
          answers =
              change_answers records call r pairs pairs' (contents_of (log_of mine)) holds.contents change;
        };
        purse = change_purse records calls call r pairs pairs' mine mine' change;
        full = tt;
        stepped = omega arith;
        counted = refl;
      }

-- the same of a pass that counts its changes
module _ (records calls counted : ℕ) (pairs : List Pair) (mine : List Placed) (holds : PlainHolds records calls pairs mine)
    (count : counted ≡ length (log_of mine)) (room : length mine < calls) (call : Call) (r : Reply) (right : reply pairs call ≡ r)
    (pairs' : List Pair) (change : IsPlainChange pairs records call r pairs') (is : pairs' ≡ map_after pairs call) (rises : KeysRise pairs')
    (mine' : List Placed) (entered : mine' ≡ mine ++ placed call r (counted + 1) ∷ []) where
  entered_at : mine' ≡ mine ++ placed call r (length (log_of mine) + 1) ∷ []
  entered_at = entered ∙ ap (λ n. mine ++ placed call r (n + 1) ∷ []) count

  pub holds_entered : PlainHolds records calls pairs' mine'
  holds_entered = subst (λ ms. PlainHolds records calls pairs' ms) (sym entered_at)
      (holds_changed records calls pairs mine holds room call r right pairs' change is rises)

  pub count_entered : counted + 1 ≡ length (log_of mine')
  count_entered =
      let s = placed call r (length (log_of mine) + 1) in
      let log = log_change mine s (change_changes records call r pairs pairs' change) in
      let more = length-append (log_of mine) (change_of 0 (length mine + 1) call ∷ []) in
      omega (arith, count, ap (λ ms. length (log_of ms)) entered_at, ap length log, more)

  pub answers_entered : IsPlainAnswer call (plain_pass records calls pairs mine) (plain_pass records calls pairs' mine') (Said r)
  answers_entered = subst (λ ms. IsPlainAnswer call (plain_pass records calls pairs mine) (plain_pass records calls pairs' ms) (Said r))
      (sym entered_at) (answers_changed records calls pairs mine holds room call r right pairs' change is rises)

-- a pass that made a call is still that of the map
pub plain_belongs : (records budget : ℕ) (sizes : MapSizes) (call : Call) (before now : PassView) (answer : Answer)
    → PlainBelongs records before → Answered plain_meaning sizes call budget before now answer 0 → PlainBelongs records now
plain_belongs records budget sizes call before now answer belongs made = record {
  share = made.grew.share ∙ belongs.share;
  caller = made.grew.caller ∙ belongs.caller;
  stands = made.stands;
}

-- The plain map loses no turn, and has no records.
pub plain_answers : (sizes : MapSizes) (call : Call) (budget : ℕ) (before now : PassView) (answer : Answer)
    → Answered plain_meaning sizes call budget before now answer 0 → AnswersCall plain_meaning sizes call budget before now answer
plain_answers sizes call budget before now answer made = record {
  turns = 0;
  told = made;
  alone = λ one clean. record { lost = refl; clean = tt };
}

-- An insert of an absent key into a full map changes nothing.
pub answers_full : (records calls : ℕ) (pairs : List Pair) (mine : List Placed) → PlainHolds records calls pairs mine → (k v : ℕ)
    → find pairs k ≡ None → length pairs ≡ records
    → IsPlainAnswer (Insert k v) (plain_pass records calls pairs mine) (plain_pass records calls pairs mine) Full
answers_full records calls pairs mine holds k v absent all budget left =
    let none : records - length pairs ≡ 0 = omega arith in
    record {
      grew = plain_grew records calls pairs pairs mine mine ([], sym (append-nil (log_of mine))) ([], sym (append-nil mine))
          (omega arith);
      says = record {
        mine = refl;
        inserts = (k, v, refl);
        short = omega (arith, length-upto (length pairs + 1) (records - length pairs));
        place = length (log_of mine);
        from_start = omega arith;
        within = omega arith;
        absent = ap (λ m. find m k) (after_all (log_of mine) ∙ sym holds.contents) ∙ absent;
      };
      stands = holds.stands;
      lost = left;
      cause = record { no_step = refl; seen = refl; answers = ap length (sym holds.contents) ∙ all };
      purse = plain_purse records calls (Insert k v) pairs mine mine;
      full = record {
        retired = omega arith;
        short = omega (arith, length-upto (length pairs + 1) (records - length pairs));
        free = full_prefix (upto (length pairs + 1) (records - length pairs)) _;
      };
      stepped = omega arith;
      counted = refl;
    }
  where
    full_prefix : (free : List ℕ) (n : ℕ) → IsPrefix (take n free) free
    full_prefix free n = (drop n free, sym (take-append-drop n free))

-- What stands after a plain map was closed over its one pass.
pub plain_closing : (records calls : ℕ) (pairs : List Pair) (mine : List Placed) (free : List ℕ)
    → PlainHolds records calls pairs mine
    → free ≡ upto (length pairs + 1) (records - length pairs)
    → IsClosing plain_meaning (plain_sizes records) (plain_pass records calls pairs mine ∷ []) pairs free (plain_run records mine)
plain_closing records calls pairs mine free holds is =
    let pass = plain_pass records calls pairs mine in
    let many : length (contents_of (log_of mine)) ≡ length pairs = ap length (sym holds.contents) in
    record {
      sizes_are = refl;
      sound = holds.sound;
      contents_are = holds.contents;
      keys_rise = holds.rises;
      callers_are = refl;
      known = λ p c e. omega (arith, plain_callers 1 mine p c e);
      stand = only (λ p. Stands (log_of mine) p.caller p.mine) pass holds.stands;
      seen = only (λ p. IsPrefix p.seen (log_of mine)) pass ([], sym (append-nil (log_of mine)));
      order = only (λ p. IsPrefix p.order []) pass ([], refl);
      own_order = only (λ p. p.steps ≡ steps_of p.caller p.order) pass refl;
      saw_all = record { position = 0; last = pass; is_one = refl; seen = refl; order = refl };
      ordered = record {
        execution = tt;
        own_passes = λ k e none. absurd cc;
        own_changes = λ k e none. absurd cc;
        logged = λ some. absurd (omega arith);
        own_steps = only (λ (r : CallerRun). r.steps ≡ []) (caller_run pass) refl;
      };
      holds = (refl, ap (λ n. upto 1 n) many);
      numbers = rw (is, many) (plain_numbers records (length pairs) holds.pairs_fit);
      live = length-upto 1 (length (contents_of (log_of mine))) ∙ many;
    }
  where
    only : {A : Type 0} (P : A → Type 0) (x : A) → P x → AtEach (x ∷ []) (λ k y. P y)
    only P x px zero y e = let is : x ≡ y = cc in subst P is px
    only P x px (suc k) y e = absurd cc

-- Its own note tells a pass nothing new.
pub plain_learns : (records calls : ℕ) (pairs : List Pair) (mine : List Placed) (note : ℕ)
    → PlainLearnable (plain_pass records calls pairs mine) note
    → Learns (plain_note note) (plain_pass records calls pairs mine) (plain_pass records calls pairs mine)
plain_learns records calls pairs mine note learnable = record {
  same = refl;
  seen = ([], sym (append-nil (log_of mine)));
  order = ([], refl);
  noted_seen = learnable.seen;
  noted_order = omega arith;
  own_steps = refl;
}
