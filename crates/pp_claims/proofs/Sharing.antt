-- The shares of callers whose claims were answered, before and after they are counted.
use Rattle.std.proofs.Common.{◌≡◌, ℕ, suc, ◌<◌, ◌≤◌, List, [], ◌∷◌, ◌++◌, length, map, get_or, replicate, All, Vec, Global}
use Rattle.std.proofs.Common.{refl, sym, ap, ap₂, ◌∙◌, subst, arith}
use Rattle.std.specs.Prelude.{Some, slice_get}
use Rattle.std.proofs.lemmas.List.{length-map}
use Rattle.std.proofs.lemmas.Option.{slice_get-get_or, slice_get_within, get_or_from_slice_get}
use Rattle.pp_model.specs.declared.Answer.{Answer}
use Rattle.pp_model.specs.declared.Call.{Call}
use Rattle.pp_model.specs.Calls.{key_of}
use Rattle.pp_model.specs.Lists.{AtEach}
use Rattle.pp_callers.specs.Jobs.{AtBoth}
use Rattle.pp_running.proofs.Lists.{mapped_at, at_mapped}
use Rattle.pp_pieces.specs.Claims.{all_claims}
use Rattle.pp_pieces.specs.Counts.{CountedIn, owned}
use Rattle.pp_pieces.specs.Pieces.{pieces_of}
use Rattle.pp_claims.specs.Claimed.{all_owned, AreCounted}
use Rattle.pp_claims.specs.Rest.{MayMark, owned_of, left_over}
use Rattle.pp_claims.specs.Shares.{MayCount}
use Rattle.pp_claims.specs.declared.shares.Share.{Share}
use Rattle.pp_claims.proofs.Lists.{list_at, are_claims, claims_long}
use Rattle.pp_claims.proofs.Owned.{zeros, empty_room, empty_long}

owned_lists : (shares : List Share) → owned_of shares ≡ all_owned (map (λ s. s.calls.items) shares) (map (λ s. s.answers.now) shares)
owned_lists [] = refl
owned_lists (s ∷ shares) = ap (λ (l : List ℕ). owned s.calls.items s.answers.now ++ l) (owned_lists shares)

same_parts : {A : Type 0} (f : Share → A) (was now : List Share) → length now ≡ length was
    → ((k : ℕ) (x y : Share) → slice_get was k ≡ Some x → slice_get now k ≡ Some y → f y ≡ f x) → map f now ≡ map f was
same_parts {A} f [] [] long each = refl
same_parts {A} f [] (y ∷ now) long each = absurd (omega arith)
same_parts {A} f (x ∷ was) [] long each = absurd (omega arith)
same_parts {A} f (x ∷ was) (y ∷ now) long each =
    ap (λ (a : A). a ∷ map f now) (each 0 x y refl refl)
    ∙ ap (λ (l : List A). f x ∷ l) (same_parts f was now (omega arith) (λ k a b at there. each (suc k) a b at there))

module _ (callers pieces : ℕ) (bytes : List ℕ) (was now : List Share) (answers : List (Vec Answer Global))
    (calls_are : map (λ s. s.calls.items) was ≡ all_claims callers pieces)
    (answers_are : map (λ s. s.answers.now) was ≡ map (λ v. v.items) answers)
    (empty : All (λ s. s.counts.items ≡ replicate 256 0) was)
    (answered : AtEach answers (λ c got. length got.items ≡ pieces))
  where
    calls_at : (k : ℕ) (x : Share) → slice_get was k ≡ Some x → slice_get (all_claims callers pieces) k ≡ Some x.calls.items
    calls_at k x at = ap (λ (l : List (List Call)). slice_get l k) (sym calls_are) ∙ at_mapped (λ s. s.calls.items) was k x at

    answers_at : (k : ℕ) (x : Share) → slice_get was k ≡ Some x → slice_get (map (λ v. v.items) answers) k ≡ Some x.answers.now
    answers_at k x at = ap (λ (l : List (List Answer)). slice_get l k) (sym answers_are) ∙ at_mapped (λ s. s.answers.now) was k x at

    each_answered : (k : ℕ) (x : Share) → slice_get was k ≡ Some x → length x.answers.now ≡ length x.calls.items
    each_answered k x at =
        let from = mapped_at (λ v. v.items) answers k x.answers.now (answers_at k x at) in
        let calls = (list_at callers pieces k x.calls.items (calls_at k x at)).1 in
        ap length (sym from.2) ∙ (answered k from.0 from.1 ∙ sym (ap length calls ∙ claims_long callers pieces k))

    each_there : (k : ℕ) (x : Share) → slice_get was k ≡ Some x → AtEach x.calls.items (λ j call. key_of call < pieces)
    each_there k x at j call here =
        let claim = are_claims callers pieces k x.calls.items (calls_at k x at) j call here in
        omega (arith, claim.1, ap key_of claim.2)

    each_empty : (k : ℕ) (x : Share) → slice_get was k ≡ Some x → x.counts.items ≡ zeros 256
    each_empty k x at = rw (get_or_from_slice_get was k x x at) at (empty k x (slice_get_within was k x at))

    -- what each caller owns may be counted
    pub may_count : pieces ≤ 4096 → pieces ≡ pieces_of (length bytes) → AtEach was (λ k x. MayCount bytes x)
    may_count few is k x at =
        let calls = (list_at callers pieces k x.calls.items (calls_at k x at)).1 in
        record {
          few = omega (arith, few, ap length calls, claims_long callers pieces k);
          there = λ j call here. omega (arith, each_there k x at j call here, is);
          answered = each_answered k x at;
          all = empty_long x.counts.items (each_empty k x at);
          room = empty_room x.counts.items (each_empty k x at);
        }

    module _ (counted : AtBoth was now (λ x y. (y.calls.items ≡ x.calls.items) × (y.answers.now ≡ x.answers.now)
        × CountedIn x.counts.items y.counts.items bytes (owned x.calls.items x.answers.now)))
      where
        before_at : (k : ℕ) (y : Share) → slice_get now k ≡ Some y → slice_get was k ≡ Some (get_or was k y)
        before_at k y at = slice_get-get_or was k y (omega (arith, slice_get_within now k y at, counted.lengths))

        -- and marked
        pub may_mark : AtEach now (λ k y. MayMark pieces y)
        may_mark k y at =
            let x : Share = get_or was k y in let here = before_at k y at in
            let both = counted.each k x y here at in
            record {
              there = subst (λ (l : List Call). AtEach l (λ j call. key_of call < pieces)) (sym both.0) (each_there k x here);
              answered = ap length both.1 ∙ (each_answered k x here ∙ sym (ap length both.0));
            }

        owned_all : owned_of now ≡ all_owned (all_claims callers pieces) (map (λ v. v.items) answers)
        owned_all =
            owned_lists now
            ∙ ap₂ all_owned
            (same_parts (λ s. s.calls.items) was now counted.lengths (λ k x y at there. (counted.each k x y at there).0) ∙ calls_are)
            (same_parts (λ s. s.answers.now) was now counted.lengths (λ k x y at there. (counted.each k x y at there).1) ∙ answers_are)

        -- the counts are those of the owned pieces and of those left over
        pub are_counted : (counts : List (Vec ℕ Global)) (rest : List ℕ) → counts ≡ map (λ s. s.counts) now
            → CountedIn (replicate 256 0) rest bytes (left_over 0 pieces (owned_of now))
            → AreCounted bytes pieces (all_claims callers pieces) (map (λ v. v.items) answers) (map (λ v. v.items) counts) rest
        are_counted counts rest counts_are left = record {
          each_caller = length-map counts (λ v. v.items) ∙ (ap length counts_are ∙ (length-map now (λ s. s.counts) ∙ (counted.lengths
              ∙ (sym (length-map was (λ s. s.calls.items)) ∙ ap length calls_are))));
          own = λ c calls got table list answer at.
              let from = mapped_at (λ v. v.items) counts c table at in
              let shared = mapped_at (λ s. s.counts) now c from.0 (ap (λ l. slice_get l c) (sym counts_are) ∙ from.1) in
              let y : Share = shared.0 in let x : Share = get_or was c y in
              let here = before_at c y shared.1 in
              let both = counted.each c x y here shared.1 in
              let calls_is : ◌≡◌ {A = List Call} x.calls.items calls = let e = sym (calls_at c x here) ∙ list in cc in
              let got_is : ◌≡◌ {A = List Answer} x.answers.now got = let e = sym (answers_at c x here) ∙ answer in cc in
              let table_is : ◌≡◌ {A = List ℕ} y.counts.items table = ap (λ (v : Vec ℕ Global). v.items) shared.2 ∙ from.2 in
              changed (each_empty c x here) table_is (ap₂ owned calls_is got_is) both.2;
          left = subst (λ (l : List ℕ). CountedIn (replicate 256 0) rest bytes (left_over 0 pieces l)) owned_all left;
        }
          where
            changed : {a b d e : List ℕ} {m n : List ℕ} → a ≡ b → d ≡ e → m ≡ n → CountedIn a d bytes m → CountedIn b e bytes n
            changed p q r in_ = rw (← p, ← q, ← r) in_
