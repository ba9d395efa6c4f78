-- The claims of callers, what was said to them, and the pieces that are owned by that.
use Rattle.std.proofs.Common.{◌≡◌, ◌⊎◌, inl, inr, ℕ, zero, suc, ◌+◌, ◌*◌, ◌/◌, ◌<◌, Bool, true, false, cond, List, [], ◌∷◌, map, length}
use Rattle.std.proofs.Common.{refl, sym, ap, ◌∙◌, ⊎_elim, arith, eq-eqb}
use Rattle.std.specs.Prelude.{nat_eq, ◌||◌, Some, slice_get}
use Rattle.std.proofs.lemmas.Bool.{true≢false, eqb-true}
use Rattle.std.proofs.lemmas.List.{length-map}
use Rattle.std.proofs.lemmas.Nat.{mod_below}
use Rattle.pp_model.specs.declared.Answer.{Answer}
use Rattle.pp_model.specs.declared.Answer.TheVariants.{Said, Full, Lost}
use Rattle.pp_model.specs.declared.Call.{Call}
use Rattle.pp_model.specs.declared.Call.TheVariants.{Insert}
use Rattle.pp_model.specs.declared.Reply.{Reply}
use Rattle.pp_model.specs.Calls.{key_of, inserts}
use Rattle.pp_model.specs.Lists.{AtEach, upto}
use Rattle.pp_model.specs.MapCalls.{SaidCall, said_calls}
use Rattle.pp_model.proofs.PlainPasses.{length-upto}
use Rattle.pp_running.proofs.Lists.{mapped_at}
use Rattle.pp_pieces.specs.Claims.{claim, claims, all_claims}
use Rattle.pp_pieces.specs.Counts.{is_added, owned}
use Rattle.pp_pieces.specs.Left.{has}
use Rattle.pp_claims.specs.Claimed.{all_owned}
use Rattle.pp_claims.proofs.Apart.{has_either, has_first, has_second}

-- each call of caller c is an insert of a piece with its number
abbrev pub AreClaims : ℕ → List (List Call) → Type 0
AreClaims pieces lists = AtEach lists (λ c calls. AtEach calls (λ j call. (number : ℕ) × (number < pieces) × (call ≡ Insert number c)))

number_at : (low n j x : ℕ) → slice_get (upto low n) j ≡ Some x → (j < n) × (x ≡ low + j)
number_at low zero j x at = absurd cc
number_at low (suc n) zero x at = let same : low ≡ x = cc in (omega arith, omega (arith, same))
number_at low (suc n) (suc j) x at = let rest = number_at (low + 1) n j x at in (omega (arith, rest.0), omega (arith, rest.1))

claim_is : (callers pieces c j : ℕ) (call : Call) → slice_get (claims callers pieces c) j ≡ Some call
    → (number : ℕ) × (number < pieces) × (call ≡ Insert number c)
claim_is callers pieces c j call at =
    let from = mapped_at (claim callers pieces c) (upto 0 pieces) j call at in
    let low = number_at 0 pieces j from.0 from.1 in
    (_, mod_below (c * pieces / callers + from.0) pieces (omega (arith, low.0)), sym from.2)

pub list_at : (callers pieces c : ℕ) (calls : List Call) → slice_get (all_claims callers pieces) c ≡ Some calls
    → (c < callers) × (calls ≡ claims callers pieces c)
list_at callers pieces c calls at =
    let from = mapped_at (claims callers pieces) (upto 0 callers) c calls at in
    let low = number_at 0 callers c from.0 from.1 in
    let same : from.0 ≡ c = omega (arith, low.1) in
    (low.0, sym from.2 ∙ ap (claims callers pieces) same)

pub are_claims : (callers pieces : ℕ) → AreClaims pieces (all_claims callers pieces)
are_claims callers pieces c calls list j call at = let is = (list_at callers pieces c calls list).1 in
    claim_is callers pieces c j call (ap (λ (l : List Call). slice_get l j) (sym is) ∙ at)

pub claims_long : (callers pieces c : ℕ) → length (claims callers pieces c) ≡ pieces
claims_long callers pieces c = length-map (upto 0 pieces) (claim callers pieces c) ∙ length-upto 0 pieces

pub all_long : (callers pieces : ℕ) → length (all_claims callers pieces) ≡ callers
all_long callers pieces = length-map (upto 0 callers) (claims callers pieces) ∙ length-upto 0 callers

pub claims_inserts : (callers pieces c : ℕ) → inserts (claims callers pieces c) ≡ pieces
claims_inserts callers pieces c = by (upto 0 pieces) ∙ length-upto 0 pieces
  where
    by : (ns : List ℕ) → inserts (map (claim callers pieces c) ns) ≡ length ns
    by [] = refl
    by (n ∷ ns) = let rest = by ns in omega arith

-- ---- what was said

-- what was said stands among the calls
pub said_at : (calls : List Call) (got : List Answer) (n : ℕ) (s : SaidCall) → slice_get (said_calls calls got) n ≡ Some s
    → (j : ℕ) × (slice_get calls j ≡ Some s.call) × (slice_get got j ≡ Some (Said s.reply))
said_at [] got n s at = absurd cc
said_at (x ∷ calls) [] n s at = absurd cc
said_at (x ∷ calls) (Said r ∷ got) zero s at =
    let one : SaidCall = record { call = x; reply = r } in let same : one ≡ s = cc in
    (0, ap (λ (y : SaidCall). Some y.call) same, ap (λ (y : SaidCall). Some (Said y.reply)) same)
said_at (x ∷ calls) (Said r ∷ got) (suc n) s at = let rest = said_at calls got n s at in (suc rest.0, rest.1, rest.2)
said_at (x ∷ calls) (Full ∷ got) n s at = let rest = said_at calls got n s at in (suc rest.0, rest.1, rest.2)
said_at (x ∷ calls) (Lost t ∷ got) n s at = let rest = said_at calls got n s at in (suc rest.0, rest.1, rest.2)

pub at_said : (calls : List Call) (got : List Answer) (j : ℕ) (call : Call) (r : Reply) → slice_get calls j ≡ Some call
    → slice_get got j ≡ Some (Said r)
    → (n : ℕ) × (s : SaidCall) × (slice_get (said_calls calls got) n ≡ Some s) × (s.call ≡ call) × (s.reply ≡ r)
at_said [] got j call r at answer = absurd cc
at_said (x ∷ calls) [] j call r at answer = absurd cc
at_said (x ∷ calls) (Said p ∷ got) zero call r at answer =
    (0, record { call = x; reply = p }, refl, (let same : x ≡ call = cc in same), (let same : p ≡ r = cc in same))
at_said (x ∷ calls) (Full ∷ got) zero call r at answer = absurd cc
at_said (x ∷ calls) (Lost t ∷ got) zero call r at answer = absurd cc
at_said (x ∷ calls) (Said p ∷ got) (suc j) call r at answer = let rest = at_said calls got j call r at answer in
    (suc rest.0, rest.1, rest.2, rest.3, rest.4)
at_said (x ∷ calls) (Full ∷ got) (suc j) call r at answer = at_said calls got j call r at answer
at_said (x ∷ calls) (Lost t ∷ got) (suc j) call r at answer = at_said calls got j call r at answer

-- the pieces of what was said to add
abbrev pub added : List SaidCall → List ℕ
added [] = []
added (s ∷ said) = cond (is_added (Said s.reply)) (key_of s.call ∷ added said) (added said)

pub owned_said : (calls : List Call) (got : List Answer) → owned calls got ≡ added (said_calls calls got)
owned_said [] got = refl
owned_said (x ∷ calls) [] = refl
owned_said (x ∷ calls) (Said r ∷ got) = ap (λ (l : List ℕ). cond (is_added (Said r)) (key_of x ∷ l) l) (owned_said calls got)
owned_said (x ∷ calls) (Full ∷ got) = owned_said calls got
owned_said (x ∷ calls) (Lost t ∷ got) = owned_said calls got

-- ---- what is owned

-- an owned piece is that of a claim that was answered Added
pub owned_at : (n : ℕ) (calls : List Call) (got : List Answer) → has n (owned calls got) ≡ true
    → (j : ℕ) × (call : Call) × (answer : Answer) × (slice_get calls j ≡ Some call) × (slice_get got j ≡ Some answer) × (key_of call ≡ n)
    × (is_added answer ≡ true)
owned_at n [] got one = absurd (true≢false (sym one))
owned_at n (x ∷ calls) [] one = absurd (true≢false (sym one))
owned_at n (x ∷ calls) (y ∷ got) one =
    ⊎_elim
    (λ (here : (key_of x ≡ n) × (is_added y ≡ true)). (0, x, y, refl, refl, here.0, here.1))
    (λ (later : has n (owned calls got) ≡ true). let rest = owned_at n calls got later in
    (suc rest.0, rest.1, rest.2, rest.3, rest.4, rest.5, rest.6))
    (by (is_added y) (owned calls got) one)
  where
    first : (same : Bool) (ns : List ℕ) → (same ≡ true → key_of x ≡ n) → (same || has n ns) ≡ true → (key_of x ≡ n) ⊎ (has n ns ≡ true)
    first true ns is one = inl (is refl)
    first false ns is one = inr one

    by : (won : Bool) (ns : List ℕ) → has n (cond won (key_of x ∷ ns) ns) ≡ true
        → ((key_of x ≡ n) × (won ≡ true)) ⊎ (has n ns ≡ true)
    by true ns one = ⊎_elim (λ (same : key_of x ≡ n). inl (same, refl)) (λ (later : has n ns ≡ true). inr later)
        (first (nat_eq (key_of x) n) ns (λ e. eqb-true (key_of x) n e) one)
    by false ns one = inr one

-- a claim that was answered Added is owned
pub won_there : (n : ℕ) (calls : List Call) (got : List Answer) (j : ℕ) (call : Call) (answer : Answer) → slice_get calls j ≡ Some call
    → slice_get got j ≡ Some answer → key_of call ≡ n → is_added answer ≡ true → has n (owned calls got) ≡ true
won_there n [] got j call answer at given key won = absurd cc
won_there n (x ∷ calls) [] j call answer at given key won = absurd cc
won_there n (x ∷ calls) (y ∷ got) zero call answer at given key won =
    let a : x ≡ call = cc in let b : y ≡ answer = cc in
    let test : is_added y ≡ true = ap is_added b ∙ won in
    let here : nat_eq (key_of x) n ≡ true = eq-eqb (key_of x) n (ap key_of a ∙ key) in
    ap (λ (w : Bool). has n (cond w (key_of x ∷ owned calls got) (owned calls got))) test
    ∙ ap (λ (w : Bool). w || has n (owned calls got)) here
won_there n (x ∷ calls) (y ∷ got) (suc j) call answer at given key won =
    by (is_added y) (owned calls got) (won_there n calls got j call answer at given key won)
  where
    or_one : (a b : Bool) → b ≡ true → (a || b) ≡ true
    or_one true b e = refl
    or_one false b e = e

    by : (w : Bool) (ns : List ℕ) → has n ns ≡ true → has n (cond w (key_of x ∷ ns) ns) ≡ true
    by true ns one = or_one (nat_eq (key_of x) n) (has n ns) one
    by false ns one = one

-- what all own is owned by one
pub all_owned_at : (n : ℕ) (lists : List (List Call)) (answers : List (List Answer)) → has n (all_owned lists answers) ≡ true
    → (c : ℕ) × (calls : List Call) × (got : List Answer) × (slice_get lists c ≡ Some calls) × (slice_get answers c ≡ Some got)
    × (has n (owned calls got) ≡ true)
all_owned_at n [] answers one = absurd (true≢false (sym one))
all_owned_at n (calls ∷ lists) [] one = absurd (true≢false (sym one))
all_owned_at n (calls ∷ lists) (got ∷ answers) one =
    ⊎_elim
    (λ (here : has n (owned calls got) ≡ true). (0, calls, got, refl, refl, here))
    (λ (later : has n (all_owned lists answers) ≡ true). let rest = all_owned_at n lists answers later in
    (suc rest.0, rest.1, rest.2, rest.3, rest.4, rest.5))
    (has_either n (owned calls got) (all_owned lists answers) one)

pub at_all_owned : (n : ℕ) (lists : List (List Call)) (answers : List (List Answer)) (c : ℕ) (calls : List Call) (got : List Answer)
    → slice_get lists c ≡ Some calls → slice_get answers c ≡ Some got → has n (owned calls got) ≡ true
    → has n (all_owned lists answers) ≡ true
at_all_owned n [] answers c calls got list answer one = absurd cc
at_all_owned n (xs ∷ lists) [] c calls got list answer one = absurd cc
at_all_owned n (xs ∷ lists) (ys ∷ answers) zero calls got list answer one =
    let a : xs ≡ calls = cc in let b : ys ≡ got = cc in
    has_first n (owned xs ys) (all_owned lists answers)
    (ap (λ (l : List Call). has n (owned l ys)) a ∙ (ap (λ (l : List Answer). has n (owned calls l)) b ∙ one))
at_all_owned n (xs ∷ lists) (ys ∷ answers) (suc c) calls got list answer one =
    has_second n (owned xs ys) (all_owned lists answers) (at_all_owned n lists answers c calls got list answer one)
