-- A log whose changes are claims: each one inserts a piece with the number of its caller.
use Rattle.std.proofs.Common.{◌≡◌, ℕ, zero, suc, ◌<◌, ◌⊎◌, inl, inr, Bool, true, false, cond, List, [], ◌∷◌, take, eq-eqb, ne_eqb}
use Rattle.std.proofs.Common.{Option, Some, None, refl, sym, ap, ◌∙◌, subst, ⊎_elim}
use Rattle.std.specs.Prelude.{nat_eq, slice_get, ◌||◌}
use Rattle.std.proofs.lemmas.Bool.{cases_eq, true≢false}
use Rattle.pp_model.specs.declared.Call.{Call}
use Rattle.pp_model.specs.declared.Call.TheVariants.{Insert}
use Rattle.pp_model.specs.declared.Change.{Change}
use Rattle.pp_model.specs.declared.Pair.{Pair}
use Rattle.pp_model.specs.Calls.{key_of, reply, reply_at, map_after, map_after_at, changes}
use Rattle.pp_model.specs.FiniteMap.{find, put}
use Rattle.pp_model.specs.History.{run_from}
use Rattle.pp_model.specs.Lists.{AtEach}
use Rattle.pp_model.proofs.Finding.{find_put, find_put_else}
use Rattle.pp_pieces.specs.Left.{has}
use Rattle.pp_claims.proofs.Apart.{Apart}

-- a change that is the claim of a piece
pub record IsClaim (pieces : ℕ) (c : Change) : Type 0 where
  pub number : ℕ
  pub low : number < pieces
  pub call : c.call ≡ Insert number c.caller

-- the pieces that a caller's changes claim
abbrev pub claimed_by : ℕ → List Change → List ℕ
claimed_by caller [] = []
claimed_by caller (c ∷ log) = cond (nat_eq c.caller caller) (key_of c.call ∷ claimed_by caller log) (claimed_by caller log)

-- each change of a log changes the map before it, from a map on
abbrev pub SoundFrom : List Pair → List Change → Type 0
SoundFrom m log = AtEach log (λ p c. changes (reply (run_from m (take p log)) c.call) ≡ true)

-- an insert that changes the map puts its pair into it
insert_by : (m : List Pair) (k v : ℕ) (w : Option ℕ) → changes (reply_at (Insert k v) w) ≡ true
    → (w ≡ None) × (map_after_at m (Insert k v) w ≡ put m k v)
insert_by m k v None changed = (refl, refl)
insert_by m k v (Some w) changed = absurd (true≢false (sym changed))

insert_at : (m : List Pair) (call : Call) (k v : ℕ) → call ≡ Insert k v → changes (reply m call) ≡ true
    → (find m k ≡ None) × (map_after m call ≡ put m k v)
insert_at m call k v is changed =
    let now : changes (reply m (Insert k v)) ≡ true = subst (λ (c : Call). changes (reply m c) ≡ true) is changed in
    let by = insert_by m k v (find m k) now in
    (by.0, ap (λ (c : Call). map_after m c) is ∙ by.1)

module _ (pieces : ℕ) where
  -- after a claim that took effect the piece is its caller's, and nothing else changed
  claim_taken : (m : List Pair) (c : Change) → IsClaim pieces c → changes (reply m c.call) ≡ true
      → (find m (key_of c.call) ≡ None) × (find (map_after m c.call) (key_of c.call) ≡ Some c.caller)
  claim_taken m c claim changed =
      let at = insert_at m c.call claim.number c.caller claim.call changed in
      let key : key_of c.call ≡ claim.number = ap key_of claim.call in (
        ap (find m) key ∙ at.0,
        ap (find (map_after m c.call)) key
            ∙ (ap (λ (l : List Pair). find l claim.number) at.1 ∙ find_put m claim.number c.caller at.0),
      )

  claim_else : (m : List Pair) (c : Change) (k : ℕ) → IsClaim pieces c → changes (reply m c.call) ≡ true → (k ≡ key_of c.call → ⊥)
      → find (map_after m c.call) k ≡ find m k
  claim_else m c k claim changed other =
      let at = insert_at m c.call claim.number c.caller claim.call changed in
      ap (λ (l : List Pair). find l k) at.1
      ∙ find_put_else m claim.number c.caller k (λ e. other (e ∙ sym (ap key_of claim.call)))

  -- a piece that was claimed stays its owner's
  claim_kept : (m : List Pair) (c : Change) (k v : ℕ) → IsClaim pieces c → changes (reply m c.call) ≡ true → find m k ≡ Some v
      → find (map_after m c.call) k ≡ Some v
  claim_kept m c k v claim changed found = claim_else m c k claim changed
      (λ e. let none = (claim_taken m c claim changed).0 in let same = ap (find m) e in cc) ∙ found

  rest_sound : (m : List Pair) (c : Change) (log : List Change) → SoundFrom m (c ∷ log) → SoundFrom (map_after m c.call) log
  rest_sound m c log sound = λ p d at. sound (suc p) d at

  rest_claims : (c : Change) (log : List Change) → AtEach (c ∷ log) (λ p d. IsClaim pieces d) → AtEach log (λ p d. IsClaim pieces d)
  rest_claims c log claims = λ p d at. claims (suc p) d at

  -- it stays so over a whole log
  pub owner_kept : (m : List Pair) (log : List Change) (k v : ℕ) → AtEach log (λ p c. IsClaim pieces c) → SoundFrom m log
      → find m k ≡ Some v → find (run_from m log) k ≡ Some v
  owner_kept m [] k v claims sound found = found
  owner_kept m (c ∷ log) k v claims sound found =
      owner_kept (map_after m c.call) log k v (rest_claims c log claims) (rest_sound m c log sound)
      (claim_kept m c k v (claims 0 c refl) (sound 0 c refl) found)

  -- the caller of a change owns its piece
  pub owner_of : (m : List Pair) (log : List Change) (p : ℕ) (c : Change) → AtEach log (λ p d. IsClaim pieces d) → SoundFrom m log
      → slice_get log p ≡ Some c → find (run_from m log) (key_of c.call) ≡ Some c.caller
  owner_of m [] p c claims sound at = absurd cc
  owner_of m (d ∷ log) zero c claims sound at =
      let same : d ≡ c = cc in
      subst (λ (x : Change). find (run_from (map_after m d.call) log) (key_of x.call) ≡ Some x.caller) same
      (owner_kept (map_after m d.call) log (key_of d.call) d.caller (rest_claims d log claims) (rest_sound m d log sound)
      (claim_taken m d (claims 0 d refl) (sound 0 d refl)).1)
  owner_of m (d ∷ log) (suc p) c claims sound at =
      owner_of (map_after m d.call) log p c (rest_claims d log claims) (rest_sound m d log sound) at

  -- a piece with an owner was claimed by it
  pub claim_of : (m : List Pair) (log : List Change) (k v : ℕ) → AtEach log (λ p d. IsClaim pieces d) → SoundFrom m log
      → find (run_from m log) k ≡ Some v
      → (find m k ≡ Some v) ⊎ ((p : ℕ) × (c : Change) × (slice_get log p ≡ Some c) × (key_of c.call ≡ k) × (c.caller ≡ v))
  claim_of m [] k v claims sound found = inl found
  claim_of m (c ∷ log) k v claims sound found =
      ⊎_elim
      (λ (was : find (map_after m c.call) k ≡ Some v). ⊎_elim
      (λ (same : k ≡ key_of c.call). let now = (claim_taken m c (claims 0 c refl) (sound 0 c refl)).1 in
      let here = ap (find (map_after m c.call)) same in inr (0, c, refl, sym same, cc))
      (λ other. inl (sym (claim_else m c k (claims 0 c refl) (sound 0 c refl) other) ∙ was))
      (cases_eq k (key_of c.call)))
      (λ later. inr (suc later.0, later.1, later.2, later.3, later.4))
      (claim_of (map_after m c.call) log k v (rest_claims c log claims) (rest_sound m c log sound) found)

  -- none of a log's claims is of a piece that was owned before
  none_again : (m : List Pair) (log : List Change) (caller k v : ℕ) → AtEach log (λ p d. IsClaim pieces d) → SoundFrom m log
      → find m k ≡ Some v → has k (claimed_by caller log) ≡ false
  none_again m [] caller k v claims sound found = refl
  none_again m (c ∷ log) caller k v claims sound found =
      let rest = none_again (map_after m c.call) log caller k v (rest_claims c log claims) (rest_sound m c log sound)
      (claim_kept m c k v (claims 0 c refl) (sound 0 c refl) found) in
      let free = (claim_taken m c (claims 0 c refl) (sound 0 c refl)).0 in
      let apart : nat_eq (key_of c.call) k ≡ false = ne_eqb (key_of c.call) k (λ e. let same = ap (find m) e in cc) in
      by (nat_eq c.caller caller) (key_of c.call) (claimed_by caller log) apart rest
    where
      by : (own : Bool) (n : ℕ) (ns : List ℕ) → nat_eq n k ≡ false → has k ns ≡ false → has k (cond own (n ∷ ns) ns) ≡ false
      by true n ns apart rest = ap (λ (b : Bool). b || has k ns) apart ∙ rest
      by false n ns apart rest = rest

  -- the pieces of a caller's changes stand apart
  pub claims_apart : (m : List Pair) (log : List Change) (caller : ℕ) → AtEach log (λ p d. IsClaim pieces d) → SoundFrom m log
      → Apart pieces (claimed_by caller log)
  claims_apart m [] caller claims sound = tt
  claims_apart m (c ∷ log) caller claims sound =
      let claim = claims 0 c refl in let taken = claim_taken m c claim (sound 0 c refl) in
      by (nat_eq c.caller caller) (key_of c.call) (claimed_by caller log)
      (subst (λ (n : ℕ). n < pieces) (sym (ap key_of claim.call)) claim.low)
      (none_again (map_after m c.call) log caller (key_of c.call) c.caller (rest_claims c log claims) (rest_sound m c log sound) taken.1)
      (claims_apart (map_after m c.call) log caller (rest_claims c log claims) (rest_sound m c log sound))
    where
      by : (own : Bool) (n : ℕ) (ns : List ℕ) → n < pieces → has n ns ≡ false → Apart pieces ns → Apart pieces (cond own (n ∷ ns) ns)
      by true n ns low none rest = (low, none, rest)
      by false n ns low none rest = rest

  -- who claimed a piece by a change owns it
  pub claimed_owner : (m : List Pair) (log : List Change) (caller k : ℕ) → AtEach log (λ p d. IsClaim pieces d) → SoundFrom m log
      → has k (claimed_by caller log) ≡ true → find (run_from m log) k ≡ Some caller
  claimed_owner m [] caller k claims sound one = absurd (true≢false (sym one))
  claimed_owner m (c ∷ log) caller k claims sound one =
      let later : has k (claimed_by caller log) ≡ true → find (run_from (map_after m c.call) log) k ≡ Some caller =
      λ rest. claimed_owner (map_after m c.call) log caller k (rest_claims c log claims) (rest_sound m c log sound) rest in
      ⊎_elim
      (λ (own : c.caller ≡ caller). ⊎_elim
      (λ (here : key_of c.call ≡ k). subst (λ (n : ℕ). find (run_from (map_after m c.call) log) n ≡ Some caller) here
      (owner_of m (c ∷ log) 0 c claims sound refl ∙ ap (λ (n : ℕ). Some n) own))
      (λ other. later (by_true (nat_eq c.caller caller) (key_of c.call) k (claimed_by caller log) (ne_eqb (key_of c.call) k other) one))
      (cases_eq (key_of c.call) k))
      (λ other. let none : nat_eq c.caller caller ≡ false = ne_eqb c.caller caller other in later (rw none at one))
      (cases_eq c.caller caller)
    where
      by_true : (own : Bool) (n k : ℕ) (ns : List ℕ) → nat_eq n k ≡ false → has k (cond own (n ∷ ns) ns) ≡ true → has k ns ≡ true
      by_true true n k ns apart one = sym (ap (λ (b : Bool). b || has k ns) apart) ∙ one
      by_true false n k ns apart one = one

  -- and has it among its pieces
  pub owner_claimed : (log : List Change) (caller k p : ℕ) (c : Change) → slice_get log p ≡ Some c → key_of c.call ≡ k → c.caller ≡ caller
      → has k (claimed_by caller log) ≡ true
  owner_claimed [] caller k p c at key own = absurd cc
  owner_claimed (d ∷ log) caller k zero c at key own =
      let same : d ≡ c = cc in
      let mine : nat_eq d.caller caller ≡ true = eq-eqb d.caller caller (ap (λ (x : Change). x.caller) same ∙ own) in
      let here : nat_eq (key_of d.call) k ≡ true = eq-eqb (key_of d.call) k (ap (λ (x : Change). key_of x.call) same ∙ key) in
      rw mine (ap (λ (b : Bool). b || has k (claimed_by caller log)) here)
  owner_claimed (d ∷ log) caller k (suc p) c at key own =
      by (nat_eq d.caller caller) (owner_claimed log caller k p c at key own)
    where
      by : (b : Bool) → has k (claimed_by caller log) ≡ true
          → has k (cond b (key_of d.call ∷ claimed_by caller log) (claimed_by caller log)) ≡ true
      by true one = ap (λ (x : Bool). nat_eq (key_of d.call) k || x) one ∙ or_one (nat_eq (key_of d.call) k)
        where
          or_one : (a : Bool) → (a || true) ≡ true
          or_one true = refl
          or_one false = refl
      by false one = one
