-- One caller's claims in the log of a run: what it owns is what its changes claim.
use Rattle.std.proofs.Common.{◌≡◌, ◌⊎◌, inl, inr, ℕ, zero, suc, ◌+◌, ◌<◌, Bool, true, false, cond, List, [], ◌∷◌, map, get_or}
use Rattle.std.proofs.Common.{Option, Some, None, refl, sym, ap, ◌∙◌, subst, ⊎_elim, arith, eq-eqb}
use Rattle.std.specs.Prelude.{nat_eq, ◌||◌, slice_get}
use Rattle.std.proofs.lemmas.Bool.{cases_Bool, true≢false, eqb-true}
use Rattle.std.proofs.lemmas.Option.{get_or_from_slice_get}
use Rattle.pp_model.specs.declared.Answer.{Answer}
use Rattle.pp_model.specs.declared.Answer.TheVariants.{Said}
use Rattle.pp_model.specs.declared.Call.{Call}
use Rattle.pp_model.specs.declared.Call.TheVariants.{Get, Insert}
use Rattle.pp_model.specs.declared.Change.{Change}
use Rattle.pp_model.specs.declared.Pair.{Pair}
use Rattle.pp_model.specs.declared.Placed.{Placed}
use Rattle.pp_model.specs.declared.Reply.{Reply}
use Rattle.pp_model.specs.Calls.{key_of, reply, reply_at, changes}
use Rattle.pp_model.specs.FiniteMap.{find}
use Rattle.pp_model.specs.History.{Stands, FitsAsChange, FitsUnchanged, finite_map, after, places_from, places_of, change_of}
use Rattle.pp_model.specs.Lists.{AtEach}
use Rattle.pp_model.specs.MapCalls.{SaidCall, said_call, said_calls}
use Rattle.pp_model.proofs.Linearizations.{as_change, as_unchanged}
use Rattle.pp_running.proofs.Lists.{mapped_at, at_mapped}
use Rattle.pp_pieces.specs.Counts.{is_added, owned}
use Rattle.pp_pieces.specs.Left.{has}
use Rattle.pp_claims.proofs.Lists.{said_at, at_said, added, owned_said}
use Rattle.pp_claims.proofs.Logs.{claimed_by}

-- an insert is answered Added exactly where it changes the map
same_test : (k v : ℕ) (w : Option ℕ) → is_added (Said (reply_at (Insert k v) w)) ≡ changes (reply_at (Insert k v) w)
same_test k v None = refl
same_test k v (Some w) = refl

pub same_reply : (m : List Pair) (call : Call) (k v : ℕ) (r : Reply) → call ≡ Insert k v → reply m call ≡ r → is_added (Said r) ≡ changes r
same_reply m call k v r is right =
    let now : reply m (Insert k v) ≡ r = ap (reply m) (sym is) ∙ right in
    subst (λ (x : Reply). is_added (Said x) ≡ changes x) now (same_test k v (find m k))

-- the pieces of placed changes
abbrev changed : List Placed → List ℕ
changed [] = []
changed (s ∷ mine) = cond (changes s.reply) (key_of s.call ∷ changed mine) (changed mine)

added_changed : (mine : List Placed) → AtEach mine (λ n s. is_added (Said s.reply) ≡ changes s.reply)
    → added (map said_call mine) ≡ changed mine
added_changed [] each = refl
added_changed (s ∷ mine) each =
    ap (λ (b : Bool). cond b (key_of s.call ∷ added (map said_call mine)) (added (map said_call mine))) (each 0 s refl)
    ∙ ap (λ (l : List ℕ). cond (changes s.reply) (key_of s.call ∷ l) l) (added_changed mine (λ n t at. each (suc n) t at))

-- the pieces at the places of changes
changed_places : (f : ℕ → ℕ) (mine : List Placed) → AtEach mine (λ n s. changes s.reply ≡ true → f s.place ≡ key_of s.call)
    → map f (places_of mine) ≡ changed mine
changed_places f [] each = refl
changed_places f (s ∷ mine) each =
    by (changes s.reply) (each 0 s refl) (changed_places f mine (λ n t at. each (suc n) t at))
  where
    by : (b : Bool) → (b ≡ true → f s.place ≡ key_of s.call) → map f (places_of mine) ≡ changed mine
        → map f (cond b (s.place ∷ places_of mine) (places_of mine)) ≡ cond b (key_of s.call ∷ changed mine) (changed mine)
    by true is rest = ap (λ (n : ℕ). n ∷ map f (places_of mine)) (is refl) ∙ ap (λ (l : List ℕ). key_of s.call ∷ l) rest
    by false is rest = rest

claimed_places : (f : ℕ → ℕ) (p caller : ℕ) (log : List Change) → AtEach log (λ j c. f (p + j + 1) ≡ key_of c.call)
    → map f (places_from p caller log) ≡ claimed_by caller log
claimed_places f p caller [] each = refl
claimed_places f p caller (c ∷ log) each =
    let zero_is : p + 1 ≡ p + 0 + 1 = omega arith in
    by (nat_eq c.caller caller) (ap f zero_is ∙ each 0 c refl)
    (claimed_places f (p + 1) caller log (λ j d at. let e : p + 1 + j + 1 ≡ p + suc j + 1 = omega arith in ap f e ∙ each (suc j) d at))
  where
    by : (b : Bool) → f (p + 1) ≡ key_of c.call → map f (places_from (p + 1) caller log) ≡ claimed_by caller log
        → map f (cond b ((p + 1) ∷ places_from (p + 1) caller log) (places_from (p + 1) caller log))
        ≡ cond b (key_of c.call ∷ claimed_by caller log) (claimed_by caller log)
    by true is rest = ap (λ (n : ℕ). n ∷ map f (places_from (p + 1) caller log)) is ∙ ap (λ (l : List ℕ). key_of c.call ∷ l) rest
    by false is rest = rest

nothing : Change
nothing = change_of 0 0 (Get 0)

-- the piece of the change at a place
key_at : List Change → ℕ → ℕ
key_at log zero = 0
key_at log (suc p) = key_of (get_or log p nothing).call

key_there : (log : List Change) (p q : ℕ) (c : Change) → slice_get log p ≡ Some c → q ≡ suc p → key_at log q ≡ key_of c.call
unfolding key_at
key_there log p q c at is = ap (key_at log) is ∙ ap (λ (x : Change). key_of x.call) (get_or_from_slice_get log p c nothing at)

-- a change of a log stands among its caller's places
placed_there : (q caller p : ℕ) (log : List Change) (c : Change) (n : ℕ) → slice_get log p ≡ Some c → c.caller ≡ caller → n ≡ q + p + 1
    → has n (places_from q caller log) ≡ true
placed_there q caller p [] c n at own is = absurd cc
placed_there q caller zero (d ∷ log) c n at own is =
    let same : d ≡ c = cc in
    let mine : nat_eq d.caller caller ≡ true = eq-eqb d.caller caller (ap (λ (x : Change). x.caller) same ∙ own) in
    let here : nat_eq (q + 1) n ≡ true = eq-eqb (q + 1) n (omega (arith, is)) in
    rw mine (ap (λ (b : Bool). b || has n (places_from (q + 1) caller log)) here)
placed_there q caller (suc p) (d ∷ log) c n at own is =
    by (nat_eq d.caller caller) (nat_eq (q + 1) n) (places_from (q + 1) caller log)
    (placed_there (q + 1) caller p log c n at own (omega (arith, is)))
  where
    or_one : (a b : Bool) → b ≡ true → (a || b) ≡ true
    or_one true b e = refl
    or_one false b e = e

    by : (b same : Bool) (ns : List ℕ) → has n ns ≡ true → has n (cond b ((q + 1) ∷ ns) ns) ≡ true
    by true same ns one = or_one (nat_eq (q + 1) n) (has n ns) one
    by false same ns one = one

-- a place of a list's changes is that of one of them
change_there : (n : ℕ) (mine : List Placed) → has n (places_of mine) ≡ true
    → (i : ℕ) × (s : Placed) × (slice_get mine i ≡ Some s) × (changes s.reply ≡ true) × (s.place ≡ n)
change_there n [] one = absurd (true≢false (sym one))
change_there n (s ∷ mine) one =
    ⊎_elim
    (λ (here : (s.place ≡ n) × (changes s.reply ≡ true)). (0, s, refl, here.1, here.0))
    (λ (later : has n (places_of mine) ≡ true). let rest = change_there n mine later in (suc rest.0, rest.1, rest.2, rest.3, rest.4))
    (by (changes s.reply) (places_of mine) one)
  where
    first : (same : Bool) (ns : List ℕ) → (same ≡ true → s.place ≡ n) → (same || has n ns) ≡ true → (s.place ≡ n) ⊎ (has n ns ≡ true)
    first true ns is one = inl (is refl)
    first false ns is one = inr one

    by : (b : Bool) (ns : List ℕ) → has n (cond b (s.place ∷ ns) ns) ≡ true → ((s.place ≡ n) × (b ≡ true)) ⊎ (has n ns ≡ true)
    by true ns one = ⊎_elim (λ (same : s.place ≡ n). inl (same, refl)) (λ (later : has n ns ≡ true). inr later)
        (first (nat_eq s.place n) ns (λ e. eqb-true s.place n e) one)
    by false ns one = inr one

module _ (log : List Change) (caller pieces : ℕ) (calls : List Call) (got : List Answer) (mine : List Placed)
    (claims : AtEach calls (λ j call. (number : ℕ) × (number < pieces) × (call ≡ Insert number caller)))
    (said : map said_call mine ≡ said_calls calls got) (stands : Stands log caller mine)
  where
    -- each placed call is a claim that was answered so
    mine_claim : (n : ℕ) (s : Placed) → slice_get mine n ≡ Some s
        → (j : ℕ) × (slice_get calls j ≡ Some s.call) × (slice_get got j ≡ Some (Said s.reply))
    mine_claim n s at =
        said_at calls got n (said_call s) (ap (λ (l : List SaidCall). slice_get l n) (sym said) ∙ at_mapped said_call mine n s at)

    insert_of : (n : ℕ) (s : Placed) → slice_get mine n ≡ Some s → (number : ℕ) × (number < pieces) × (s.call ≡ Insert number caller)
    insert_of n s at = let claim = mine_claim n s at in claims claim.0 s.call claim.1

    -- its reply is that of the map at some place of the log
    right_at : (n : ℕ) (s : Placed) → slice_get mine n ≡ Some s → (p : ℕ) × (reply (after log p) s.call ≡ s.reply)
    right_at n s at = ⊎_elim
        (λ (change : changes s.reply ≡ true). let fits : FitsAsChange log caller (n + 1) s =
        as_change finite_map log caller (n + 1) s change (stands.each n s at) in (fits.before, fits.right))
        (λ (none : changes s.reply ≡ false). let fits : FitsUnchanged log s =
        as_unchanged finite_map log caller (n + 1) s none (stands.each n s at) in (s.place, fits.right))
        (cases_Bool (changes s.reply))

    tests : AtEach mine (λ n s. is_added (Said s.reply) ≡ changes s.reply)
    tests n s at = let insert = insert_of n s at in let right = right_at n s at in
        same_reply (after log right.0) s.call insert.0 caller s.reply insert.2 right.1

    logged : (n : ℕ) (s : Placed) → slice_get mine n ≡ Some s → changes s.reply ≡ true
        → (p : ℕ) × (s.place ≡ suc p) × (slice_get log p ≡ Some (change_of caller (n + 1) s.call))
    logged n s at change = let fits : FitsAsChange log caller (n + 1) s =
        as_change finite_map log caller (n + 1) s change (stands.each n s at) in (fits.before, omega (arith, fits.place), fits.logged)

    -- what a caller owns is what its changes claim
    pub owned_is : owned calls got ≡ claimed_by caller log
    owned_is =
        owned_said calls got ∙ (ap added (sym said) ∙ (added_changed mine tests
        ∙ (sym (changed_places (key_at log) mine (λ n s at change. let is = logged n s at change in
        key_there log is.0 s.place (change_of caller (n + 1) s.call) is.2 is.1))
        ∙ (ap (map (key_at log)) (sym stands.all)
        ∙ claimed_places (key_at log) 0 caller log (λ j c at. key_there log j (0 + j + 1) c at (omega arith))))))

    -- each change of the caller is a claim
    pub change_claims : (p : ℕ) (c : Change) → slice_get log p ≡ Some c → c.caller ≡ caller
        → (number : ℕ) × (number < pieces) × (c.call ≡ Insert number c.caller)
    change_claims p c at own =
        let there : has (p + 1) (places_of mine) ≡ true = ap (has (p + 1)) (sym stands.all)
        ∙ placed_there 0 caller p log c (p + 1) at own (omega arith) in
        let one = change_there (p + 1) mine there in
        let is = logged one.0 one.1 one.2 one.3 in
        let place : is.0 ≡ p = omega (arith, is.1, one.4) in
        let same : slice_get log p ≡ Some (change_of caller (one.0 + 1) one.1.call) = ap (slice_get log) (sym place) ∙ is.2 in
        let equal : c ≡ change_of caller (one.0 + 1) one.1.call = cc in
        let insert = insert_of one.0 one.1 one.2 in
        (insert.0, insert.1, ap (λ (x : Change). x.call) equal ∙ (insert.2 ∙ ap (Insert insert.0) (sym own)))

    -- a claim that was answered by a reply was added by this caller, or found the piece owned at some place of the log
    pub said_claim : (j number : ℕ) (call : Call) (r : Reply) → slice_get calls j ≡ Some call → slice_get got j ≡ Some (Said r)
        → key_of call ≡ number
        → (is_added (Said r) ≡ true) ⊎ ((p : ℕ) × (w : ℕ) × (find (after log p) number ≡ Some w))
    said_claim j number call r at answer key =
        let one = at_said calls got j call r at answer in
        let from = mapped_at said_call mine one.0 one.1 (ap (λ (l : List SaidCall). slice_get l one.0) said ∙ one.2) in
        let s : Placed = from.0 in
        let call_is : s.call ≡ call = ap (λ (x : SaidCall). x.call) from.2 ∙ one.3 in
        let reply_is : s.reply ≡ r = ap (λ (x : SaidCall). x.reply) from.2 ∙ one.4 in
        let right = right_at one.0 s from.1 in
        let claim = claims j call at in
        let number_is : claim.0 ≡ number = sym (ap key_of claim.2) ∙ key in
        let replied : reply_at (Insert claim.0 caller) (find (after log right.0) claim.0) ≡ r =
        ap (reply (after log right.0)) (sym (call_is ∙ claim.2)) ∙ (right.1 ∙ reply_is) in
        by right.0 claim.0 number_is (find (after log right.0) claim.0) refl replied
      where
        by : (p k : ℕ) → k ≡ number → (w : Option ℕ) → find (after log p) k ≡ w → reply_at (Insert k caller) w ≡ r
            → (is_added (Said r) ≡ true) ⊎ ((p : ℕ) × (w : ℕ) × (find (after log p) number ≡ Some w))
        by p k same None found replied = inl (ap (λ (x : Reply). is_added (Said x)) (sym replied))
        by p k same (Some w) found replied = inr (p, w, ap (find (after log p)) (sym same) ∙ found)
