-- The exchange of 0 for a free number of a pass at a shelf word: the number is on the shelf.
use Rattle.std.proofs.Common.{◌≡◌, ◌≢◌, ◌⊎◌, ℕ, ◌*◌, ◌<◌, ◌≤◌, Bool, true, false, cond, eqb, List, [], ◌∷◌, ◌++◌, get_or, set, arith}
use Rattle.std.proofs.Common.{refl, sym, ap, ◌∙◌, subst, inl, inr, ⊎_elim, eq-eqb, ne_eqb, arith}
use Rattle.std.proofs.Math.Bool.{false≢true}
use Rattle.std.proofs.Math.Decide.{ℕ_discrete}
use prog.Atomic.{either}
use mathlib.Core.Logic.{dite}
use mathlib.Core.Option.{some, some-injective}
use lib.ListN.{get_elem?}
use Rattle.atomic_table.specs.Table.{Me, Allows}
use Rattle.pp_link.specs.declared.layout.Sizes.{Sizes}
use Rattle.pp_link.specs.Places.{IsNumber, shelf_place}
use Rattle.pp_link.specs.Words.{shelf_word, ShelfStored}
use Rattle.pp_rule.specs.Lists.{IsIn, OnceBy}
use Rattle.pp_rule.specs.Orders.{LoggedStep, stores, only_loads, missed_step, shelve_step}
use Rattle.pp_rule.specs.Views.{PrivateRecord, PassState, SeatView}
use Rattle.pp_rule.specs.States.{RecordState, owned, shelved, IsUsed, PoolState}
use Rattle.pp_rule.specs.Rule.{Reads, number_of, Numbers, PrivateWords, Shelves, Base}
use Rattle.pp_rule.specs.Ties.{Holds}
use Rattle.pp_rule.specs.Steps.{entry, IsAlone, MadeQuietStep}
use Rattle.pp_rule.specs.Shelves.{giving, TriedShelf}
use Rattle.pp_rule.specs.Looks.{LooksSame}
use Rattle.pp_rule.specs.Laws.{KeptAlike}
use Rattle.pp_rule.specs.Changes.{SameButOwned}
use Rattle.pp_rule.proofs.Put.{put, put_here, put_else}
use Rattle.pp_rule.proofs.Stepping.{after_step, Plays, allows_by, low_aside}
use Rattle.pp_rule.proofs.Frames.{reads_after, privates_after}
use Rattle.pp_rule.proofs.Keeping.{idle_keeps, shelf_scope}
use Rattle.pp_rule.proofs.Publishing.{removed_in, in_removed, once_removed}
use Rattle.pp_rule.proofs.Shelves.{stored, numbers_moved, base_moved, looks_moved}

-- The record d, at the index k of those that the pass owns, goes to the shelf word j, which is 0.
module _ {E A W : Type 0} (sides : ℕ) (z : Sizes) (words : List ℕ) (g : PoolState E A W) (q : PassState W) (k j : ℕ)
    (d : PrivateRecord) (b : Base sides z words g) (pass : q.number < z.passes) (is : g.of q.number ≡ q) (low : j < 8 * z.passes)
    (at : get_elem? q.owned k ≡ some d) (empty : shelf_word words z j ≡ 0) where
  at_was : get_elem? (g.of q.number).owned k ≡ some d
  at_was = ap (λ (v : PassState W). get_elem? v.owned k) is ∙ at

  -- the record was private to the pass, or free with it
  was_owned : IsNumber z d.number × (g.status d.number ≡ owned q.number)
  was_owned = b.numbers.owned_to q.number d pass (k, at_was)

  was_free : IsUsed (g.status d.number) → ⊥
  was_free used = subst IsUsed was_owned.1 used

  is_free : IsUsed (shelved j) → ⊥
  is_free used = used

  same : SameButOwned q (giving k q)
  same = record { number = refl; sizes = refl; retired_are = refl; walk = refl; frontier = refl; chains = refl; scan = refl }

  abbrev new : List ℕ
  new = set words (shelf_place z j) d.number

  -- the states after the step
  abbrev pub shelved_status : ℕ → RecordState
  shelved_status = put g.status d.number (shelved j)

  shelf_stored_at : ShelfStored z words new j d.number
  shelf_stored_at = stored sides z words g q (giving k q) j d.number d.number (shelved j) b pass is low was_free is_free same

  -- what the pass still owns, it owned, and it is another record
  still_owned : (e : PrivateRecord) → IsIn e (giving k q).owned → IsIn e (g.of q.number).owned × (e.number ≢ d.number)
  still_owned e i = let was = removed_in k q.owned e i in
      let old : get_elem? (g.of q.number).owned was.0 ≡ some e = ap (λ (v : PassState W). get_elem? v.owned was.0) is ∙ was.1.1 in
      ((was.0, old), λ e_is. was.1.0 (b.numbers.owned_once q.number pass was.0 k e d old at_was e_is))

  numbers_now : Numbers z (put g.of q.number (giving k q)) shelved_status
  numbers_now = numbers_moved sides z words g q (giving k q) j d.number d.number (shelved j) b pass is low was_free is_free same
      low
      (λ e i. let old = still_owned e i in let had = b.numbers.owned_to q.number e pass old.0 in
      (had.0, put_else g.status d.number (shelved j) e.number old.1 ∙ had.1))
      (λ m number state. let other : m ≢ d.number = λ m_is. let bad : shelved j ≡ owned q.number =
      sym (put_here g.status d.number (shelved j)) ∙ (ap shelved_status (sym m_is) ∙ state) in absurd cc in
      let e = b.numbers.owned_from q.number m pass number (sym (put_else g.status d.number (shelved j) m other) ∙ state) in
      let old : get_elem? q.owned e.1.0.0 ≡ some e.0 = ap (λ (v : PassState W). get_elem? v.owned e.1.0.0) (sym is) ∙ e.1.0.1 in (
        e.0,
        (
          in_removed k q.owned e.1.0.0 e.0 old (λ k_is. other (sym e.1.1 ∙ ap number_of
              (some-injective e.0 d (sym old ∙ (ap (λ (i : ℕ). get_elem? q.owned i) k_is ∙ at))))),
          e.1.1,
        ),
      ))
      (λ r e below other i e_is. let bad : owned r ≡ owned q.number = sym (b.numbers.owned_to r e below i).1
      ∙ (ap g.status e_is ∙ was_owned.1) in other cc)
      (λ r below other bad. absurd cc)
      (once_removed number_of k q.owned
      (subst (λ (v : PassState W). OnceBy number_of v.owned) is (b.numbers.owned_once q.number pass)))

  privates_now : PrivateWords z new (put g.of q.number (giving k q))
  privates_now = privates_after z g.of q.number (giving k q) words new (λ r e below other i. reads_on r e below i)
      (λ e i. reads_on q.number e pass (still_owned e i).0)
    where
      reads_on : (r : ℕ) (e : PrivateRecord) → r < z.passes → IsIn e (g.of r).owned → Reads z new e
      reads_on r e below i = reads_after z words new e
          (λ f four. shelf_stored_at.cells e.number f (b.numbers.owned_to r e below i).0 four)
          (b.privates.reads r e below i)

  shelves_now : Shelves z new shelved_status
  shelves_now = record {
    named = λ l below. dite (ℕ_discrete l j)
        (λ here. subst (λ (i : ℕ). (shelf_word new z i ≡ 0) ⊎ (IsNumber z (shelf_word new z i)
        × (shelved_status (shelf_word new z i) ≡ shelved i))) (sym here)
        (inr (subst (λ (w : ℕ). IsNumber z w × (shelved_status w ≡ shelved j)) (sym shelf_stored_at.here)
        (was_owned.0, put_here g.status d.number (shelved j)))))
        (λ other. subst (λ (w : ℕ). (w ≡ 0) ⊎ (IsNumber z w × (shelved_status w ≡ shelved l)))
        (sym (shelf_stored_at.shelves l below other))
        (⊎_elim inl (λ (t : IsNumber z (shelf_word words z l) × (g.status (shelf_word words z l) ≡ shelved l)). inr (
          t.0,
          put_else g.status d.number (shelved j) (shelf_word words z l) (λ w_is. let bad : shelved l ≡ owned q.number =
              sym t.1 ∙ (ap g.status w_is ∙ was_owned.1) in absurd cc) ∙ t.1,
        )) (b.shelves.named l below)));
    home = λ m l number state. dite (ℕ_discrete m d.number)
        (λ here. let there : shelved j ≡ shelved l = sym (put_here g.status d.number (shelved j))
        ∙ (ap shelved_status (sym here) ∙ state) in
        let l_is : j ≡ l = cc in subst (λ (i : ℕ). shelf_word new z i ≡ m) l_is (shelf_stored_at.here ∙ sym here))
        (λ other. let was : g.status m ≡ shelved l = sym (put_else g.status d.number (shelved j) m other) ∙ state in
        let home : shelf_word words z l ≡ m = b.shelves.home m l number was in
        let elsewhere : l ≢ j = λ l_is. let nil : m ≡ 0 = sym home ∙ (ap (λ (i : ℕ). shelf_word words z i) l_is ∙ empty) in
        let some : 1 ≤ m = number.0 in absurd (omega arith) in
        shelf_stored_at.shelves l (shelf_scope sides z words g b m l was number) elsewhere ∙ home);
  }

  -- all facts of every pool after the step
  pub base_shelved : (s : LoggedStep E A) → Base sides z new (after_step g (giving k q) shelved_status s)
  base_shelved s = base_moved sides z words g q (giving k q) j d.number d.number (shelved j) b pass is low was_free is_free same
      (g.order ++ s ∷ []) numbers_now privates_now shelves_now

  -- what a shape sees of it
  pub looks_shelved : (s : LoggedStep E A) → s.entry.changes ≡ [] → s.placed ≡ []
      → LooksSame z words new g (after_step g (giving k q) shelved_status s)
  looks_shelved s no_change no_call = looks_moved sides z words g q (giving k q) j d.number d.number (shelved j) b pass is low
      was_free is_free same s no_change no_call refl

module _ {E A W : Type 0} (sides : ℕ) (opens : Sizes → List ℕ) (addition : Sizes → List ℕ → PoolState E A W → Type 0) where
  -- no exchange stores whatever stands there
  stores_none : (hit : Bool) → stores (cond hit shelve_step missed_step) ≡ false
  stores_none true = refl
  stores_none false = refl

  -- an exchange that fails leaves what stood there
  missed_keeps : (hit : Bool) (n new : ℕ) → only_loads (cond hit shelve_step missed_step) ≡ true → either hit new n ≡ n
  missed_keeps true n new bad = absurd (false≢true bad)
  missed_keeps false n new is = refl

  -- A record that the pass owns may be exchanged for 0 at a shelf word.
  pub shelves_owned : KeptAlike sides addition → (z : Sizes) (slots id place k j : ℕ) (d : PrivateRecord)
      (me : Me Unit (SeatView E A W)) → IsAlone me → get_elem? me.0.known.owned k ≡ some d → j < 8 * z.passes
      → place ≡ shelf_place z j
      → Allows (Holds sides opens addition z) slots id me place (λ n. either (eqb n 0) d.number n)
      (λ n m'. (m'.1 ≡ []) × TriedShelf d.number n place me.0 m'.0)
  unfolding shelf_word
  shelves_owned alike z slots id place k j d me lone at low at_place = let q : PassState W = me.0.known in
      let then : ℕ → Me Unit (SeatView E A W) → Type 0 = λ n m'. (m'.1 ≡ []) × TriedShelf d.number n place me.0 m'.0 in
      let kind : Bool → ℕ = λ hit. cond hit shelve_step missed_step in
      allows_by sides opens addition z slots id place (λ n. kind (eqb n 0)) me
      (λ n. either (eqb n 0) d.number n) (λ n. n) then lone (λ m no. refl)
      (λ m yes. (
        (λ bad. absurd (false≢true (sym (stores_none (eqb m 0)) ∙ bad))),
        λ words g b some is. low_aside z g place (omega arith),
      )) (λ m. missed_keeps (eqb m 0) m d.number)
      (λ words g b add pass is sizes fits. let n : ℕ = get_or words place 0 in
      dite (ℕ_discrete n 0)
      (λ e. subst (λ (hit : Bool). Plays sides opens addition (kind hit) place n (either hit d.number n) z words g me.0 (then n))
      (sym (eq-eqb n 0 e))
      (let q' : PassState W = giving k q in
      let empty : shelf_word words z j ≡ 0 = ap (λ (i : ℕ). get_or words i 0) (sym at_place) ∙ e in
      let status : ℕ → RecordState = shelved_status sides z words g q k j d b pass is low at empty in
      let s : LoggedStep E A = entry shelve_step place n d.number [] [] g.order q' in
      let b' : Base sides z (set words place d.number) (after_step g q' status s) =
      subst (λ (i : ℕ). Base sides z (set words i d.number) (after_step g q' status s)) (sym at_place)
      (base_shelved sides z words g q k j d b pass is low at empty s) in
      let looks : LooksSame z words (set words place d.number) g (after_step g q' status s) =
      subst (λ (i : ℕ). LooksSame z words (set words i d.number) g (after_step g q' status s)) (sym at_place)
      (looks_shelved sides z words g q k j d b pass is low at empty s refl refl) in record {
        known = q';
        status = status;
        changes = [];
        placed = [];
        keeps_rule = record {
          number = refl;
          sizes = sizes;
          base = b';
          added = alike z words (set words place d.number) g (after_step g q' status s) b b' looks add;
        };
        tells = λ v is_now made. (
          refl,
          record {
            empty = λ nil. record {
              index = k;
              was = d;
              at = at;
              number_is = refl;
              made = subst (λ (w : ℕ). MadeQuietStep shelve_step place w d.number q' me.0 v) nil made;
            };
            taken = λ other. absurd (other e);
          },
        );
      }))
      (λ ne. subst (λ (hit : Bool). Plays sides opens addition (kind hit) place n (either hit d.number n) z words g me.0 (then n))
      (sym (ne_eqb n 0 ne)) record {
        known = q;
        status = g.status;
        changes = [];
        placed = [];
        keeps_rule = idle_keeps sides opens addition alike missed_step place z words g q b add pass is sizes;
        tells = λ v is_now made. (refl, record { empty = λ e. absurd (ne e); taken = λ _. made });
      }))
