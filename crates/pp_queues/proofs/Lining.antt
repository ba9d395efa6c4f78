-- The line of attached records after each kind of step, and what stays known of the records where calls stand.
use Rattle.std.proofs.Common.{◌≡◌, ◌≢◌, ⊎_elim, ℕ, zero, suc, ◌+◌, ◌*◌, ◌<◌, ◌≤◌}
use Rattle.std.proofs.Common.{List, [], ◌∷◌, ◌++◌}
use Rattle.std.proofs.Common.{length, get_or, refl, sym, ap, ◌∙◌, subst, arith, length-append}
use Rattle.std.proofs.Math.Decide.{ℕ_discrete}
use mathlib.Core.Logic.{dite}
use Rattle.pp_link.specs.declared.layout.Sizes.{Sizes}
use Rattle.pp_link.specs.Links.{target}
use Rattle.pp_link.specs.Places.{IsNumber}
use Rattle.pp_rule.specs.States.{RecordState, attached, IsUsed}
use Rattle.pp_rule.proofs.Put.{put, put_here, put_else}
use Rattle.pp_queues.specs.Lines.{Heap, Lined, Steady, Still, Alike, Appended, Moved, Removed}

pub is_used : (s : RecordState) → s ≡ attached → IsUsed s
is_used s e = subst IsUsed (sym e) tt

-- the last entry of a list with one more, and the others
pub get_front : (xs : List ℕ) (x i : ℕ) → i < length xs → get_or (xs ++ x ∷ []) i 0 ≡ get_or xs i 0
get_front [] x i lt = absurd (omega arith)
get_front (y ∷ xs) x zero lt = refl
get_front (y ∷ xs) x (suc i) lt = get_front xs x i (omega arith)

pub get_last : (xs : List ℕ) (x : ℕ) → get_or (xs ++ x ∷ []) (length xs) 0 ≡ x
get_last [] x = refl
get_last (y ∷ xs) x = get_last xs x

module _ (z : Sizes) (t t' : Heap) where
  -- the link of an attached record
  alike_link : Alike z t t' → (n : ℕ) → IsNumber z n → t.status n ≡ attached → t'.link n ≡ t.link n
  alike_link a n is_n st = ⊎_elim (λ (e : t'.link n ≡ t.link n). e)
      (λ (y : (t'.status n ≢ attached) × (target (t'.link n) ≡ target (t.link n)) × (t'.link n ≢ 0)). absurd (y.0 (a.on n st)))
      (a.links n is_n (is_used (t'.status n) (a.on n st)))

  pub lined_alike : (at : ℕ → ℕ) (items : List ℕ) → 1 ≤ z.heads → Alike z t t' → Lined z t at items → Lined z t' at items
  lined_alike at items one a l = record {
    front = a.heads 0 (omega arith) ∙ l.front;
    each = λ i le. let y = l.each i le in (y.0, a.on (at i) y.1);
    next = λ i lt. let y = l.each i (omega arith) in alike_link a (at i) y.0 y.1 ∙ l.next i lt;
    last = let y = l.each (length items) (omega arith) in alike_link a (at (length items)) y.0 y.1 ∙ l.last;
    values = λ i lt. let y = l.each (i + 1) (omega arith) in
        l.values i lt ∙ sym (a.values (at (i + 1)) y.0 (is_used (t'.status (at (i + 1))) (a.on (at (i + 1)) y.1)));
    all = λ n is_n st. l.all n is_n (a.was n st);
    once = l.once;
    ended = λ n is_n u nil. ⊎_elim
        (λ (e : t'.link n ≡ t.link n). a.on n (l.ended n is_n (a.used_was n u) (ap target (sym e) ∙ nil)))
        (λ (y : (t'.status n ≢ attached) × (target (t'.link n) ≡ target (t.link n)) × (t'.link n ≢ 0)).
        a.on n (l.ended n is_n (a.used_was n u) (sym y.1 ∙ nil)))
        (a.links n is_n u);
    back = λ two. let b = l.back two in (b.0, (b.1.0, b.1.1, a.heads 1 (omega arith) ∙ b.1.2));
  }

  pub still_alike : (at : ℕ → ℕ) (items : List ℕ) → z.heads ≡ 2 → Alike z t t' → Lined z t at items → Still t t'
  still_alike at items two a l = record { back = back_same; on = a.on }
    where
      back_same : target (t'.link (target (t'.head 1))) ≡ target (t.link (target (t.head 1)))
      back_same = let b = l.back two in let i : ℕ = b.0 in let y = l.each i b.1.0 in
          let led : target (t.head 1) ≡ at i = let e = b.1.2 in omega arith in
          ap (λ (h : ℕ). target (t'.link (target h))) (a.heads 1 (omega arith))
          ∙ (ap (λ (n : ℕ). target (t'.link n)) led
          ∙ (ap target (alike_link a (at i) y.0 y.1) ∙ ap (λ (n : ℕ). target (t.link n)) (sym led)))

  pub steady_alike : (at : ℕ → ℕ) (items : List ℕ) → z.heads ≡ 2 → Alike z t t' → Lined z t at items → Steady z t t'
  steady_alike at items two a l = record {
    next = λ n is_n u u' some. ⊎_elim (λ (e : t'.link n ≡ t.link n). ap target e)
        (λ (y : (t'.status n ≢ attached) × (target (t'.link n) ≡ target (t.link n)) × (t'.link n ≢ 0)). y.1) (a.links n is_n u');
    was = λ n is_n u st. a.was n st;
    front = λ n is_n st st' e. a.heads 0 (omega arith) ∙ e;
    past = λ n is_n st st' e ne same. ne (sym (a.heads 1 (omega arith)) ∙ same);
    back = λ n is_n st st' ne same. ne (sym (still_alike at items two a l).back ∙ same);
  }

-- 16 times a number tells the number
pub times_once : (n m : ℕ) → 16 * n ≡ 16 * m → n ≡ m
times_once n m e = omega arith

pub leads_to : (w n : ℕ) → w ≡ 16 * n → target w ≡ n
leads_to w n e = omega arith

-- The record n, which leads nowhere, gets the record c behind it, with this value.
module _ (z : Sizes) (t t' : Heap) (at : ℕ → ℕ) (items : List ℕ) (n c v : ℕ) (two : z.heads ≡ 2) (l : Lined z t at items)
    (a : Appended z t t' n c) (used : IsUsed (t.status n)) (value : t.value c ≡ v)
    (not_before : target (t.link (target (t.head 1))) ≢ n) where
  -- the positions with one more
  abbrev pub at_more : ℕ → ℕ
  at_more = put at (length items + 1) c

  old : (i : ℕ) → i ≤ length items → at_more i ≡ at i
  old i le = put_else at (length items + 1) c i (λ e. omega arith)

  here : at_more (length items + 1) ≡ c
  here = put_here at (length items + 1) c

  pub n_attached : t.status n ≡ attached
  n_attached = l.ended n a.number used (ap target a.nil)

  -- it is the last record
  n_last : at (length items) ≡ n
  n_last = let y = l.all n a.number n_attached in let i : ℕ = y.0 in let le = y.1.0 in dite (ℕ_discrete i (length items))
      (λ e. ap at (sym e) ∙ y.1.1)
      (λ ne. let lt : i < length items = omega arith in let one = (l.each (i + 1) (omega arith)).0.0 in
      let led : t.link n ≡ 16 * at (i + 1) = ap t.link (sym y.1.1) ∙ l.next i lt in let nil = a.nil in absurd (omega arith))

  new_ne : n ≢ c
  new_ne e = a.unused (subst (λ (k : ℕ). IsUsed (t.status k)) e used)

  was_ne : (i : ℕ) → i ≤ length items → at i ≢ c
  was_ne i le e = a.unused (subst (λ (k : ℕ). IsUsed (t.status k)) e (is_used (t.status (at i)) (l.each i le).1))

  -- the others lead as they did
  link_old : (i : ℕ) → i < length items → t'.link (at i) ≡ t.link (at i)
  link_old i lt = a.links (at i) (l.each i (omega arith)).0
      (λ e. let same : i ≡ length items = l.once i (length items) (omega arith) (omega arith) (e ∙ sym n_last) in omega arith)

  more : length (items ++ v ∷ []) ≡ length items + 1
  more = length-append items (v ∷ [])

  pub lined_appended : Lined z t' at_more (items ++ v ∷ [])
  lined_appended = record {
    front = a.heads 0 (omega arith) ∙ (l.front ∙ ap (λ (k : ℕ). 16 * k) (sym (old 0 (omega arith))));
    each = λ i le. dite (ℕ_discrete i (length items + 1))
        (λ e. subst (λ (k : ℕ). IsNumber z k × (t'.status k ≡ attached)) (sym (ap at_more e
        ∙ here)) (a.new_number, a.attached_now))
        (λ ne. let le' : i ≤ length items = omega (arith, more) in let y = l.each i le' in
        subst (λ (k : ℕ). IsNumber z k × (t'.status k ≡ attached)) (sym (old i le')) (y.0, a.others (at i) (was_ne i le') ∙ y.1));
    next = λ i lt. dite (ℕ_discrete i (length items))
        (λ e. ap (λ (k : ℕ). t'.link (at_more k)) e ∙ (ap t'.link (old (length items) (omega arith) ∙ n_last) ∙ (a.here
        ∙ ap (λ (k : ℕ). 16 * k) (sym (ap (λ (k : ℕ). at_more (k + 1)) e ∙ here)))))
        (λ ne. let lt' : i < length items = omega (arith, more) in
        ap t'.link (old i (omega arith)) ∙ (link_old i lt' ∙ (l.next i lt'
        ∙ ap (λ (k : ℕ). 16 * k) (sym (old (i + 1) (omega arith))))));
    last = ap (λ (k : ℕ). t'.link (at_more k)) more
        ∙ (ap t'.link here ∙ (a.links c a.new_number (λ e. new_ne (sym e)) ∙ a.new_nil));
    values = λ i lt. dite (ℕ_discrete i (length items))
        (λ e. ap (λ (k : ℕ). get_or (items ++ v ∷ []) k 0) e ∙ (get_last items v ∙ (sym value ∙ (sym (a.values c a.new_number)
        ∙ ap t'.value (sym (ap (λ (k : ℕ). at_more (k + 1)) e ∙ here))))))
        (λ ne. let lt' : i < length items = omega (arith, more) in get_front items v i lt' ∙ (l.values i lt'
        ∙ (sym (a.values (at (i + 1)) (l.each (i + 1) (omega arith)).0) ∙ ap t'.value (sym (old (i + 1) (omega arith))))));
    all = λ m is_m st. dite (ℕ_discrete m c) (λ e. (length items + 1, (omega (arith, more), here ∙ sym e)))
        (λ ne. let y = l.all m is_m (sym (a.others m ne) ∙ st) in let le = y.1.0 in
        (y.0, (omega (arith, more), old y.0 le ∙ y.1.1)));
    once = λ i j le_i le_j same. dite (ℕ_discrete i (length items + 1))
        (λ e. dite (ℕ_discrete j (length items + 1)) (λ f. e ∙ sym f)
        (λ nf. let lj : j ≤ length items = omega (arith, more) in
        absurd (was_ne j lj (sym (old j lj) ∙ (sym same ∙ (ap at_more e ∙ here))))))
        (λ ne. let li : i ≤ length items = omega (arith, more) in dite (ℕ_discrete j (length items + 1))
        (λ f. absurd (was_ne i li (sym (old i li) ∙ (same ∙ (ap at_more f ∙ here)))))
        (λ nf. let lj : j ≤ length items = omega (arith, more) in l.once i j li lj (sym (old i li) ∙ (same ∙ old j lj))));
    ended = λ m is_m u nil. dite (ℕ_discrete m c) (λ e. ap t'.status e ∙ a.attached_now)
        (λ ne. dite (ℕ_discrete m n) (λ e. let led : t'.link m ≡ 16 * c = ap t'.link e ∙ a.here in
        let to : target (t'.link m) ≡ c = leads_to (t'.link m) c led in
        let one = a.new_number.0 in absurd (omega arith))
        (λ other. a.others m ne ∙ l.ended m is_m (subst IsUsed (a.others m ne) u) (ap target (sym (a.links m is_m other))
        ∙ nil)));
    back = λ _. back_now;
  }
    where
      -- where the call that appends it stood at the last record, head 1 leads there
      back_now : (i : ℕ) × ((i ≤ length (items ++ v ∷ [])) × (length (items ++ v ∷ []) ≤ i + 1) × (t'.head 1 ≡ 16 * at_more i))
      back_now = let b = l.back two in let le = b.1.0 in
          (b.0, (omega (arith, more), back_last, a.heads 1 (omega arith) ∙ (b.1.2 ∙ ap (λ (k : ℕ). 16 * k) (sym (old b.0 le)))))
        where
          back_last : length (items ++ v ∷ []) ≤ (l.back two).0 + 1
          back_last = let b = l.back two in let i : ℕ = b.0 in let le = b.1.0 in let ge = b.1.1 in
              dite (ℕ_discrete i (length items))
              (λ e. omega (arith, more))
              (λ ne. let lt : i < length items = omega arith in let next : i + 1 ≡ length items = omega arith in
              let led : target (t.head 1) ≡ at i = leads_to (t.head 1) (at i) b.1.2 in
              absurd (not_before (ap (λ (k : ℕ). target (t.link k)) led ∙ (leads_to (t.link (at i)) (at (i + 1)) (l.next i lt)
              ∙ (ap at next ∙ n_last)))))

  pub steady_appended : Steady z t t'
  steady_appended = record {
    next = λ m is_m u u' some. ap target (a.links m is_m (λ e. some (ap (λ (k : ℕ). target (t.link k)) e ∙ ap target a.nil)));
    was = λ m is_m u st. sym (a.others m (λ e. a.unused (subst (λ (k : ℕ). IsUsed (t.status k)) e u))) ∙ st;
    front = λ m is_m st st' e. a.heads 0 (omega arith) ∙ e;
    past = λ m is_m st st' e ne same. ne (sym (a.heads 1 (omega arith)) ∙ same);
    back = λ m is_m st st' ne same. dite (ℕ_discrete first n)
        (λ e. a.unused (subst (λ (k : ℕ). IsUsed (t.status k)) (sym (sym (ap target (ap t'.link e ∙ a.here) ∙ times_target c)
        ∙ (sym now ∙ same)))
        (is_used (t.status m) st)))
        (λ other. ne (sym (ap target (a.links first number other)) ∙ (sym now ∙ same)));
  }
    where
      first : ℕ
      first = target (t.head 1)

      now : target (t'.link (target (t'.head 1))) ≡ target (t'.link first)
      now = ap (λ (h : ℕ). target (t'.link (target h))) (a.heads 1 (omega arith))

      number : IsNumber z first
      number = let b = l.back two in subst (IsNumber z) (sym (leads_to (t.head 1) (at b.0) b.1.2)) (l.each b.0 b.1.0).0

      times_target : (k : ℕ) → target (16 * k) ≡ k
      times_target k = omega arith

-- Head 1 is moved on.
module _ (z : Sizes) (t t' : Heap) (at : ℕ → ℕ) (items : List ℕ) (n m : ℕ) (l : Lined z t at items) (v : Moved z t t' n m) where
  -- from the record before the last one to the last one
  pub moved_last : (i : ℕ) × ((i + 1 ≡ length items) × (at i ≡ n) × (at (length items) ≡ m))
  moved_last = let b = l.back v.two in let i : ℕ = b.0 in let le = b.1.0 in let ge = b.1.1 in
      let here : at i ≡ n = times_once (at i) n (sym b.1.2 ∙ v.from) in dite (ℕ_discrete i (length items))
      (λ e. absurd (v.some (sym v.leads ∙ (ap (λ (k : ℕ). target (t.link k)) (sym here ∙ ap at e) ∙ ap target l.last))))
      (λ ne. let lt : i < length items = omega arith in let next : i + 1 ≡ length items = omega arith in (
        i,
        (
          next,
          here,
          ap at (sym next)
              ∙ (sym (leads_to (t.link (at i)) (at (i + 1)) (l.next i lt)) ∙ (ap (λ (k : ℕ). target (t.link k)) here ∙ v.leads)),
        ),
      ))

  pub lined_moved : Lined z t' at items
  lined_moved = record {
    front = v.front ∙ l.front;
    each = λ i le. let y = l.each i le in (y.0, v.status (at i) ∙ y.1);
    next = λ i lt. v.links (at i) (l.each i (omega arith)).0 ∙ l.next i lt;
    last = v.links (at (length items)) (l.each (length items) (omega arith)).0 ∙ l.last;
    values = λ i lt. l.values i lt ∙ sym (v.values (at (i + 1)) (l.each (i + 1) (omega arith)).0);
    all = λ k is_k st. l.all k is_k (sym (v.status k) ∙ st);
    once = l.once;
    ended = λ k is_k u nil. v.status k ∙ l.ended k is_k (subst IsUsed (v.status k) u) (ap target (sym (v.links k is_k)) ∙ nil);
    back = λ _. (length items, (omega arith, omega arith, v.to ∙ ap (λ (k : ℕ). 16 * k) (sym moved_last.1.2)));
  }

  -- head 1 leads to the last record then
  pub moved_to_end : t'.link (target (t'.head 1)) ≡ 0
  moved_to_end = let led : target (t'.head 1) ≡ m = leads_to (t'.head 1) m v.to in ap t'.link (led ∙ sym moved_last.1.2)
      ∙ (v.links (at (length items)) (l.each (length items) (omega arith)).0 ∙ l.last)

  pub steady_moved : Steady z t t'
  steady_moved = record {
    next = λ k is_k u u' some. ap target (v.links k is_k);
    was = λ k is_k u st. sym (v.status k) ∙ st;
    front = λ k is_k st st' e. v.front ∙ e;
    past = λ k is_k st st' e ne same. let y = moved_last in let next = y.1.0 in
        let dummy : at 0 ≡ k = times_once (at 0) k (sym l.front ∙ e) in let end : m ≡ k = times_once m k (sym v.to ∙ same) in
        let bad : length items ≡ 0 = l.once (length items) 0 (omega arith) (omega arith) (y.1.2 ∙ (end ∙ sym dummy)) in
        absurd (omega arith);
    back = λ k is_k st st' ne same. let one = is_k.0 in let end = moved_to_end in absurd (omega arith);
  }

-- The dummy is detached.
module _ (z : Sizes) (t t' : Heap) (at : ℕ → ℕ) (items : List ℕ) (n m : ℕ) (l : Lined z t at items) (r : Removed z t t' n m) where
  pub was_dummy : at 0 ≡ n
  was_dummy = times_once (at 0) n (sym l.front ∙ r.from)

  -- there is a value
  pub some_value : 0 < length items
  some_value = dite (ℕ_discrete (length items) 0)
      (λ e. absurd (r.some (sym r.leads ∙ (ap (λ (k : ℕ). target (t.link k)) (sym was_dummy ∙ ap at (sym e))
      ∙ ap target l.last))))
      (λ ne. omega arith)

  pub was_next : at 1 ≡ m
  was_next = sym (leads_to (t.link (at 0)) (at 1) (l.next 0 some_value)) ∙ (ap (λ (k : ℕ). target (t.link k)) was_dummy ∙ r.leads)

  -- it is that of the record behind the dummy
  pub first_value : get_or items 0 0 ≡ t.value m
  first_value = l.values 0 some_value ∙ ap t.value was_next

  other : (i : ℕ) → i < length items → at (i + 1) ≢ n
  other i lt e = let bad : i + 1 ≡ 0 = l.once (i + 1) 0 (omega arith) (omega arith) (e ∙ sym was_dummy) in absurd (omega arith)

  pub lined_removed : (v : ℕ) (rest : List ℕ) → items ≡ v ∷ rest → Lined z t' (λ i. at (i + 1)) rest
  lined_removed v rest is = let long : length items ≡ length rest + 1 = ap (λ (xs : List ℕ). length xs) is ∙ (omega arith) in
      record {
        front = r.to ∙ ap (λ (k : ℕ). 16 * k) (sym was_next);
        each = λ i le. let lt : i < length items = omega arith in let y = l.each (i + 1) (omega arith) in
            (y.0, r.others (at (i + 1)) (other i lt) ∙ y.1);
        next = λ i lt. r.links (at (i + 1)) (l.each (i + 1) (omega arith)).0 ∙ l.next (i + 1) (omega arith);
        last = r.links (at (length rest + 1)) (l.each (length rest + 1) (omega arith)).0 ∙ (ap (λ (k : ℕ). t.link (at k)) (sym long)
            ∙ l.last);
        values = λ i lt. let e : i + 1 ≡ suc i = omega arith in
            ap (λ (k : ℕ). get_or (v ∷ rest) k 0) (sym e) ∙ (ap (λ (xs : List ℕ). get_or xs (i + 1) 0) (sym is)
            ∙ (l.values (i + 1) (omega arith) ∙ sym (r.values (at (i + 1 + 1)) (l.each (i + 1 + 1) (omega arith)).0)));
        all = λ k is_k st. let ne : k ≢ n = λ e. r.gone (ap t'.status (sym e) ∙ st) in
            let y = l.all k is_k (sym (r.others k ne) ∙ st) in
            let i : ℕ = y.0 in let le = y.1.0 in dite (ℕ_discrete i 0) (λ e. absurd (ne (sym y.1.1 ∙ (ap at e ∙ was_dummy))))
            (λ some. (prev i, (before i some le long, ap at (prev_next i some) ∙ y.1.1)));
        once = λ i j li lj same. let e : i + 1 ≡ j + 1 = l.once (i + 1) (j + 1) (omega arith) (omega arith) same in omega arith;
        ended = λ k is_k u nil. let old : target (t.link k) ≡ 0 = ap target (sym (r.links k is_k)) ∙ nil in
            let ne : k ≢ n = λ e. r.some (sym r.leads ∙ (ap (λ (k : ℕ). target (t.link k)) (sym e) ∙ old)) in
            r.others k ne ∙ l.ended k is_k (subst IsUsed (r.others k ne) u) old;
        back = λ two. let b = l.back two in let i : ℕ = b.0 in let le = b.1.0 in let ge = b.1.1 in
            dite (ℕ_discrete i 0) (λ e. absurd (r.passed (b.1.2 ∙ ap (λ (k : ℕ). 16 * k) (ap at e ∙ was_dummy))))
            (λ some. (
              prev i,
              (
                before i some le long,
                after i some ge long,
                r.back
                    ∙ (b.1.2 ∙ ap (λ (k : ℕ). 16 * at k) (sym (prev_next i some))),
              ),
            ));
      }
    where
      prev : ℕ → ℕ
      prev zero = 0
      prev (suc i) = i

      prev_next : (i : ℕ) → i ≢ 0 → prev i + 1 ≡ i
      prev_next zero ne = absurd (ne refl)
      prev_next (suc i) ne = omega arith

      before : (i : ℕ) → i ≢ 0 → i ≤ length items → length items ≡ length rest + 1 → prev i ≤ length rest
      before i ne le long = let e = prev_next i ne in omega arith

      after : (i : ℕ) → i ≢ 0 → length items ≤ i + 1 → length items ≡ length rest + 1 → length rest ≤ prev i + 1
      after i ne ge long = let e = prev_next i ne in omega arith

  -- where head 1 leads, the link is as it was
  pub removed_back : target (t'.link (target (t'.head 1))) ≡ target (t.link (target (t.head 1)))
  removed_back = let b = l.back r.two in ap (λ (h : ℕ). target (t'.link (target h))) r.back
      ∙ ap target (r.links (target (t.head 1)) (subst (IsNumber z) (sym (leads_to (t.head 1) (at b.0) b.1.2))
      (l.each b.0 b.1.0).0))

  pub steady_removed : Steady z t t'
  steady_removed = record {
    next = λ k is_k u u' some. ap target (r.links k is_k);
    was = λ k is_k u st. sym (r.others k (λ e. r.gone (ap t'.status (sym e) ∙ st))) ∙ st;
    front = λ k is_k st st' e. absurd (r.gone (ap t'.status (times_once n k (sym r.from ∙ e)) ∙ st'));
    past = λ k is_k st st' e ne same. r.gone (ap t'.status (times_once n k (sym r.from ∙ e)) ∙ st');
    back = λ k is_k st st' ne same. ne (sym removed_back ∙ same);
  }

-- What a load finds.
module _ (z : Sizes) (t : Heap) (at : ℕ → ℕ) (items : List ℕ) (l : Lined z t at items) where
  -- where head 1 leads, it isn't before that
  pub not_before_own : z.heads ≡ 2 → (n : ℕ) → t.head 1 ≡ 16 * n → IsNumber z n → target (t.link (target (t.head 1))) ≢ n
  not_before_own two n e is_n same = let b = l.back two in let i : ℕ = b.0 in let le = b.1.0 in
      let here : at i ≡ n = times_once (at i) n (sym b.1.2 ∙ e) in
      let led : target (t.head 1) ≡ at i = leads_to (t.head 1) (at i) b.1.2 in
      let to : target (t.link (at i)) ≡ n = ap (λ (k : ℕ). target (t.link k)) (sym led) ∙ same in
      dite (ℕ_discrete i (length items))
      (λ f. let end : t.link (at i) ≡ 0 = ap (λ (k : ℕ). t.link (at k)) f ∙ l.last in let one = is_n.0 in absurd (omega arith))
      (λ nf. let lt : i < length items = omega arith in
      let bad : i + 1 ≡ i = l.once (i + 1) i (omega arith) le (sym (leads_to (t.link (at i)) (at (i + 1)) (l.next i lt))
      ∙ (to ∙ sym here)) in
      absurd (omega arith))

  -- what leads nowhere has no bits
  pub nowhere_plain : (n : ℕ) → IsNumber z n → IsUsed (t.status n) → target (t.link n) ≡ 0 → t.link n ≡ 0
  nowhere_plain n is_n u none = let y = l.all n is_n (l.ended n is_n u none) in let i : ℕ = y.0 in let le = y.1.0 in
      dite (ℕ_discrete i (length items))
      (λ e. ap t.link (sym y.1.1) ∙ (ap (λ (k : ℕ). t.link (at k)) e ∙ l.last))
      (λ ne. let lt : i < length items = omega arith in let one = (l.each (i + 1) (omega arith)).0.0 in
      let led : target (t.link n) ≡ at (i + 1) = leads_to (t.link n) (at (i + 1)) (ap t.link (sym y.1.1) ∙ l.next i lt) in
      absurd (omega arith))

  -- behind a dummy that leads nowhere there is no value
  pub none_behind : (n : ℕ) → t.head 0 ≡ 16 * n → t.link n ≡ 0 → items ≡ []
  none_behind n e nil = no_items items l
    where
      no_items : (xs : List ℕ) → Lined z t at xs → xs ≡ []
      no_items [] k = refl
      no_items (x ∷ xs) k = let here : at 0 ≡ n = times_once (at 0) n (sym k.front ∙ e) in
          let led : t.link n ≡ 16 * at 1 = ap t.link (sym here) ∙ k.next 0 (omega arith) in
          let one = (k.each 1 (omega arith)).0.0 in
          absurd (omega arith)
