-- The swap of 0 into a shelf word: the number that stood there is free with the pass.
use Rattle.std.proofs.Common.{◌≡◌, ◌≢◌, ◌⊎◌, ℕ, ◌*◌, ◌<◌, List, [], ◌∷◌, ◌++◌, get_or, set, refl, arith}
use Rattle.std.proofs.Common.{sym, ap, ◌∙◌, subst, inl, inr, ⊎_elim}
use Rattle.std.proofs.Math.Bool.{false≢true}
use Rattle.std.proofs.Math.Decide.{ℕ_discrete}
use mathlib.Core.Logic.{dite}
use Rattle.atomic_table.specs.Table.{Me, Allows}
use Rattle.pp_link.specs.declared.layout.Sizes.{Sizes}
use Rattle.pp_link.specs.Places.{IsNumber, shelf_place}
use Rattle.pp_link.specs.Words.{shelf_word, ShelfStored}
use Rattle.pp_rule.specs.Lists.{IsIn, OnceBy}
use Rattle.pp_rule.specs.Orders.{LoggedStep, unshelve_step}
use Rattle.pp_rule.specs.Views.{PrivateRecord, PassState, SeatView}
use Rattle.pp_rule.specs.States.{RecordState, owned, shelved, IsUsed, PoolState}
use Rattle.pp_rule.specs.Rule.{Reads, number_of, Numbers, PrivateWords, Shelves, Base}
use Rattle.pp_rule.specs.Ties.{Holds}
use Rattle.pp_rule.specs.Steps.{entry, IsAlone, MadeQuietStep}
use Rattle.pp_rule.specs.Shelves.{getting, ClearedShelf}
use Rattle.pp_rule.specs.Looks.{LooksSame}
use Rattle.pp_rule.specs.Laws.{KeptAlike}
use Rattle.pp_rule.specs.Changes.{SameButOwned}
use Rattle.pp_rule.proofs.Put.{put, put_here, put_else, in_nil, in_last, in_left, in_either, in_one}
use Rattle.pp_rule.proofs.Without.{once_append, once_cons}
use Rattle.pp_rule.proofs.Stepping.{after_step, KeepsRule, allows, low_aside}
use Rattle.pp_rule.proofs.Frames.{reads_after, privates_after}
use Rattle.pp_rule.proofs.Keeping.{idle_keeps, shelf_scope}
use Rattle.pp_rule.proofs.Freeing.{read_record}
use Rattle.pp_rule.proofs.Shelves.{stored, numbers_moved, base_moved, looks_moved}

-- The number n stands on the shelf word j.
module _ {E A W : Type 0} (sides : ℕ) (z : Sizes) (words : List ℕ) (g : PoolState E A W) (q : PassState W) (j n : ℕ)
    (b : Base sides z words g) (pass : q.number < z.passes) (is : g.of q.number ≡ q) (low : j < 8 * z.passes)
    (word_is : shelf_word words z j ≡ n) (number : IsNumber z n) (on_shelf : g.status n ≡ shelved j) where
  was_free : IsUsed (g.status n) → ⊥
  was_free used = subst IsUsed on_shelf used

  is_free : IsUsed (owned q.number) → ⊥
  is_free used = used

  abbrev freed : PrivateRecord
  freed = read_record z words n

  abbrev after : PassState W
  after = getting freed q

  same : SameButOwned q after
  same = record { number = refl; sizes = refl; retired_are = refl; walk = refl; frontier = refl; chains = refl; scan = refl }

  abbrev new : List ℕ
  new = set words (shelf_place z j) 0

  -- the states after the step
  abbrev pub unshelved_status : ℕ → RecordState
  unshelved_status = put g.status n (owned q.number)

  shelf_stored_at : ShelfStored z words new j 0
  shelf_stored_at = stored sides z words g q after j 0 n (owned q.number) b pass is low was_free is_free same

  -- no record that a pass owned is the one that came
  other_owned : (r : ℕ) (e : PrivateRecord) → r < z.passes → IsIn e (g.of r).owned → e.number ≢ n
  other_owned r e below i e_is = let bad : owned r ≡ shelved j = sym (b.numbers.owned_to r e below i).1
      ∙ (ap g.status e_is ∙ on_shelf) in
      absurd cc

  mine_was : (e : PrivateRecord) → IsIn e q.owned → IsIn e (g.of q.number).owned
  mine_was e i = subst (λ (v : PassState W). IsIn e v.owned) (sym is) i

  numbers_now : Numbers z (put g.of q.number after) unshelved_status
  numbers_now = numbers_moved sides z words g q after j 0 n (owned q.number) b pass is low was_free is_free same pass
      (λ e i. ⊎_elim
      (λ (old : IsIn e q.owned). let had = b.numbers.owned_to q.number e pass (mine_was e old) in
      (had.0, put_else g.status n (owned q.number) e.number (other_owned q.number e pass (mine_was e old)) ∙ had.1))
      (λ (last : IsIn e (freed ∷ [])). let came : unshelved_status n ≡ owned q.number = put_here g.status n (owned q.number) in
      subst (λ (c : PrivateRecord). IsNumber z c.number × (unshelved_status c.number ≡ owned q.number)) (in_one e freed last)
      (number, came)) (in_either e q.owned (freed ∷ []) i))
      (λ m m_number state. dite (ℕ_discrete m n) (λ here. (freed, (in_last freed q.owned, sym here)))
      (λ other.
      let e = b.numbers.owned_from q.number m pass m_number (sym (put_else g.status n (owned q.number) m other) ∙ state) in
      (e.0, (in_left e.0 q.owned (freed ∷ []) (subst (λ (v : PassState W). IsIn e.0 v.owned) is e.1.0), e.1.1))))
      (λ r e below other i. other_owned r e below i)
      (λ r below other bad. other cc)
      (once_append number_of q.owned (freed ∷ [])
      (subst (λ (v : PassState W). OnceBy number_of v.owned) is (b.numbers.owned_once q.number pass))
      (once_cons number_of freed [] (λ e i same_number. in_nil e i) (λ k l x y at_k at_l e. absurd (in_nil x (k, at_k))))
      (λ x y i last same_number. other_owned q.number x pass (mine_was x i)
      (same_number ∙ ap number_of (sym (in_one y freed last)))))

  privates_now : PrivateWords z new (put g.of q.number after)
  privates_now = privates_after z g.of q.number after words new (λ r e below other i. reads_on r e below i)
      (λ e i. ⊎_elim (λ (old : IsIn e q.owned). reads_on q.number e pass (mine_was e old))
      (λ (last : IsIn e (freed ∷ [])). subst (Reads z new) (in_one e freed last)
      (reads_after z words new freed (λ f four. shelf_stored_at.cells n f number four)
      record { key = refl; value = refl; left = refl; right = refl; high = refl }))
      (in_either e q.owned (freed ∷ []) i))
    where
      reads_on : (r : ℕ) (e : PrivateRecord) → r < z.passes → IsIn e (g.of r).owned → Reads z new e
      reads_on r e below i = reads_after z words new e
          (λ f four. shelf_stored_at.cells e.number f (b.numbers.owned_to r e below i).0 four)
          (b.privates.reads r e below i)

  shelves_now : Shelves z new unshelved_status
  shelves_now = record {
    named = λ l below. dite (ℕ_discrete l j)
        (λ here. inl (subst (λ (i : ℕ). shelf_word new z i ≡ 0) (sym here) shelf_stored_at.here))
        (λ other. subst (λ (w : ℕ). (w ≡ 0) ⊎ (IsNumber z w × (unshelved_status w ≡ shelved l)))
        (sym (shelf_stored_at.shelves l below other))
        (⊎_elim inl (λ (t : IsNumber z (shelf_word words z l) × (g.status (shelf_word words z l) ≡ shelved l)). inr (
          t.0,
          put_else g.status n (owned q.number) (shelf_word words z l) (λ w_is. let bad : shelved l ≡ shelved j =
              sym t.1 ∙ (ap g.status w_is ∙ on_shelf) in other cc) ∙ t.1,
        )) (b.shelves.named l below)));
    home = λ m l m_number state. dite (ℕ_discrete m n)
        (λ here. let bad : owned q.number ≡ shelved l = sym (put_here g.status n (owned q.number))
        ∙ (ap unshelved_status (sym here) ∙ state) in absurd cc)
        (λ other. let was : g.status m ≡ shelved l = sym (put_else g.status n (owned q.number) m other) ∙ state in
        let home : shelf_word words z l ≡ m = b.shelves.home m l m_number was in
        let elsewhere : l ≢ j = λ l_is. other (sym home ∙ (ap (λ (i : ℕ). shelf_word words z i) l_is ∙ word_is)) in
        shelf_stored_at.shelves l (shelf_scope sides z words g b m l was m_number) elsewhere ∙ home);
  }

  -- all facts of every pool after the step
  pub base_unshelved : (s : LoggedStep E A) → Base sides z new (after_step g after unshelved_status s)
  base_unshelved s = base_moved sides z words g q after j 0 n (owned q.number) b pass is low was_free is_free same
      (g.order ++ s ∷ []) numbers_now privates_now shelves_now

  -- what a shape sees of it
  pub looks_unshelved : (s : LoggedStep E A) → s.entry.changes ≡ [] → s.placed ≡ []
      → LooksSame z words new g (after_step g after unshelved_status s)
  looks_unshelved s no_change no_call = looks_moved sides z words g q after j 0 n (owned q.number) b pass is low
      was_free is_free same s no_change no_call refl

module _ {E A W : Type 0} (sides : ℕ) (opens : Sizes → List ℕ) (addition : Sizes → List ℕ → PoolState E A W → Type 0) where
  -- 0 may be swapped into a shelf word.
  pub unshelves_any : KeptAlike sides addition → (z : Sizes) (slots id place j : ℕ) (me : Me Unit (SeatView E A W)) → IsAlone me
      → j < 8 * z.passes → place ≡ shelf_place z j
      → Allows (Holds sides opens addition z) slots id me place (λ _. 0) (λ n m'. (m'.1 ≡ []) × ClearedShelf n place me.0 m'.0)
  unfolding shelf_word
  unshelves_any alike z slots id place j me lone low at_place = let q : PassState W = me.0.known in
      allows sides opens addition z slots id place unshelve_step me (λ _. 0) (λ n. n)
      (λ n m'. (m'.1 ≡ []) × ClearedShelf n place me.0 m'.0) lone (λ m no. refl)
      (λ m yes. ((λ bad. absurd (false≢true bad)), λ words g b some is. low_aside z g place (omega arith)))
      (λ m bad. absurd (false≢true bad))
      (λ words g b add pass is sizes fits. let n : ℕ = get_or words place 0 in
      let word_is : shelf_word words z j ≡ n = ap (λ (i : ℕ). get_or words i 0) (sym at_place) in
      dite (ℕ_discrete n 0)
      (λ e. record {
        known = q;
        status = g.status;
        changes = [];
        placed = [];
        keeps_rule = subst (λ (w : ℕ). KeepsRule sides opens addition unshelve_step place n w z words g q q g.status [] []) e
            (idle_keeps sides opens addition alike unshelve_step place z words g q b add pass is sizes);
        tells = λ v is_now made. (
          refl,
          record {
            some = λ other. absurd (other e);
            none = λ _. subst (λ (w : ℕ). MadeQuietStep unshelve_step place w 0 q me.0 v) e made;
          },
        );
      })
      (λ ne. let on : IsNumber z n × (g.status n ≡ shelved j) = ⊎_elim
      (λ (nil : shelf_word words z j ≡ 0). absurd (ne (sym word_is ∙ nil)))
      (λ (t : IsNumber z (shelf_word words z j) × (g.status (shelf_word words z j) ≡ shelved j)).
      subst (λ (w : ℕ). IsNumber z w × (g.status w ≡ shelved j)) word_is t) (b.shelves.named j low) in
      let q' : PassState W = getting (read_record z words n) q in
      let status : ℕ → RecordState = unshelved_status sides z words g q j n b pass is low word_is on.0 on.1 in
      let s : LoggedStep E A = entry unshelve_step place n 0 [] [] g.order q' in
      let b' : Base sides z (set words place 0) (after_step g q' status s) =
      subst (λ (i : ℕ). Base sides z (set words i 0) (after_step g q' status s)) (sym at_place)
      (base_unshelved sides z words g q j n b pass is low word_is on.0 on.1 s) in
      let looks : LooksSame z words (set words place 0) g (after_step g q' status s) =
      subst (λ (i : ℕ). LooksSame z words (set words i 0) g (after_step g q' status s)) (sym at_place)
      (looks_unshelved sides z words g q j n b pass is low word_is on.0 on.1 s refl refl) in record {
        known = q';
        status = status;
        changes = [];
        placed = [];
        keeps_rule = record {
          number = refl;
          sizes = sizes;
          base = b';
          added = alike z words (set words place 0) g (after_step g q' status s) b b' looks add;
        };
        tells = λ v is_now made. (
          refl,
          record {
            some = λ _. record { freed = read_record z words n; number_is = refl; made = made };
            none = λ nil. absurd (ne nil);
          },
        );
      }))
