-- A step of a seat that is alone with its pass: what it owes of the rule, and what follows for the views and the order.
use Rattle.std.proofs.Common.{◌≡◌, ◌≢◌, ℕ, ◌<◌, true, false, List, [], ◌∷◌, ◌++◌, get_or, set, refl, sym, ap}
use Rattle.std.proofs.Common.{◌∙◌, subst, ⊎_elim, ◌⊎◌, inl, inr, ◌*◌, ◌≤◌, Bool, length, length-append, arith}
use Rattle.std.specs.Prelude.{nat_eq, ◌||◌}
use mathlib.Core.Option.{some}
use lib.ListN.{get_elem?}
use Rattle.atomic_table.specs.Table.{Me, keeps, Allows}
use Rattle.atomic_table.proofs.Lists.{at_set, set_here}
use Rattle.pp_link.specs.declared.layout.Sizes.{Sizes}
use Rattle.pp_link.specs.Places.{IsNumber, head_place, cell_place}
use Rattle.pp_rule.specs.Lists.{IsIn}
use Rattle.pp_rule.specs.Orders.{LoggedStep, stores, only_loads, KeepsWord, goes_aside, replayed, entries_of}
use Rattle.pp_rule.specs.Views.{PassState, SeatView, all_of}
use Rattle.pp_rule.specs.States.{RecordState, attached, PoolState}
use Rattle.pp_rule.specs.Rule.{Base}
use Rattle.pp_rule.specs.Ties.{TiedPass, Tied, Ties, Runs, Holds, GoAside}
use Rattle.pp_rule.specs.Reached.{Reached, IsAside}
use Rattle.pp_rule.proofs.Reaching.{reached_attached}
use Rattle.pp_rule.specs.Orders.{invalidate_step, shelve_step, unshelve_step}
use Rattle.pp_rule.specs.Steps.{entry, alone, IsAlone, MadeStep}
use Rattle.pp_rule.proofs.Put.{put, put_here, put_else, in_nil, in_either, in_one, only, at_below}
use Rattle.pp_rule.proofs.Histories.{begins_self, begins_more, made_else, replayed_more, run_more}

module _ {E A W : Type 0} where
  -- what the rule knows after a step of a pass, of which this is known now
  abbrev pub after_step : PoolState E A W → PassState W → (ℕ → RecordState) → LoggedStep E A → PoolState E A W
  after_step g known status s = record { of = put g.of known.number known; order = g.order ++ s ∷ []; status = status }

  -- The views are tied after a step of the seat id, whose view was v and is alone of `known`: the view of the seat has all
  -- steps, and the others have all steps of their passes, since none of these made the step.
  pub ties_after : (z : Sizes) (views : List (SeatView E A W)) (g : PoolState E A W) (id : ℕ) (v : SeatView E A W) (known : PassState W)
      (status : ℕ → RecordState) (s : LoggedStep E A) → Ties z views g → get_elem? views id ≡ some v → v ≡ alone v.order v.known
      → known.number ≡ v.known.number → known.sizes ≡ z → s.entry.pass ≡ known.number
      → Ties z (set views id (alone (g.order ++ s ∷ []) known)) (after_step g known status s)
  ties_after z views g id v known status s t at lone number sizes pass =
      let w : SeatView E A W = alone (g.order ++ s ∷ []) known in
      let g' : PoolState E A W = after_step g known status s in
      let here : IsIn v.known (all_of v) = subst (λ (u : SeatView E A W). IsIn v.known (all_of u)) (sym lone) (0, refl) in
      let mine = (t.each_seat id v at).each v.known here in
      let low : known.number < z.passes = subst (λ (p : ℕ). p < z.passes) (sym number) mine.number in
      let seat : t.seat_of known.number ≡ id = ap t.seat_of number ∙ mine.seat in
      let itself : TiedPass z g' t.seat_of id (g.order ++ s ∷ []) known = record {
        number = low;
        sizes = sizes;
        is = put_here g.of known.number known;
        seat = seat;
        steps = refl;
      } in record {
        seat_of = t.seat_of;
        each_seat = λ j u is. ⊎_elim
            (λ (c : (j ≡ id) × (w ≡ u)). subst (λ (u : SeatView E A W). Tied z g' t.seat_of j u) c.1 record {
              begins = begins_self (g.order ++ s ∷ []);
              each = λ q i. subst (λ (k : ℕ). TiedPass z g' t.seat_of k (g.order ++ s ∷ []) q) (sym c.0)
                  (subst (λ (q : PassState W). TiedPass z g' t.seat_of id (g.order ++ s ∷ []) q) (in_one q known i) itself);
              apart = λ k l q r at_k at_l _. only q known k at_k ∙ sym (only r known l at_l);
              kept = λ o i. absurd (in_nil o i);
              met = λ o i. absurd (in_nil o i);
            })
            (λ (c : (j ≢ id) × (get_elem? views j ≡ some u)). others t.seat_of j u c.0 (t.each_seat j u c.1) seat)
            (at_set views id j w u is);
        last = (id, (w, set_here views id w (at_below views id v at), refl));
        made = λ m i. ⊎_elim (t.made m) (λ (last : IsIn m (s ∷ [])). subst (λ (m : LoggedStep E A). m.entry.pass < z.passes)
            (in_one m s last)
            (subst (λ (p : ℕ). p < z.passes) (sym pass) low)) (in_either m g.order (s ∷ []) i);
      }
    where
      -- the view of another seat
      others : (seat_of : ℕ → ℕ) (j : ℕ) (u : SeatView E A W) → j ≢ id → Tied z g seat_of j u → seat_of known.number ≡ id
          → Tied z (after_step g known status s) seat_of j u
      others seat_of j u differ was seat = record {
        begins = begins_more g.order u.order (s ∷ []) was.begins;
        each = λ q i. let old = was.each q i in
            let other : q.number ≢ known.number = λ same. differ (sym old.seat ∙ (ap seat_of same ∙ seat)) in record {
              number = old.number;
              sizes = old.sizes;
              is = put_else g.of known.number known q.number other ∙ old.is;
              seat = old.seat;
              steps = old.steps ∙ sym (made_else q.number g.order s (λ same. other (sym same ∙ pass)));
            };
        apart = was.apart;
        kept = λ o i. let old = was.kept o i in
            let other : o.pass ≢ known.number = λ same. differ (sym old.seat ∙ (ap seat_of same ∙ seat)) in record {
              begins = begins_more g.order o.order (s ∷ []) old.begins;
              seat = old.seat;
              steps = old.steps ∙ sym (made_else o.pass g.order s (λ same. other (sym same ∙ pass)));
            };
        met = λ o i. begins_more g.order o (s ∷ []) (was.met o i);
      }

  pub runs_after : (opens words : List ℕ) (order : List (LoggedStep E A)) (known : PassState W) (kind place word left : ℕ)
      (changes : List E) (placed : List A)
      → Runs opens words order → (stores kind ≡ false → word ≡ get_or words place 0) → (stores kind ≡ true → word ≡ left)
      → (only_loads kind ≡ true → left ≡ word)
      → Runs opens (set words place left) (order ++ entry kind place word left changes placed order known ∷ [])
  runs_after opens words order known kind place word left changes placed r found stored kept =
      let s : LoggedStep E A = entry kind place word left changes placed order known in record {
        leaves = replayed_more opens order s ∙ ap (λ (ws : List ℕ). set ws place left) r.leaves;
        finds = run_more opens order s r.finds record {
          found = λ no. found no
              ∙ ap (λ (ws : List ℕ). get_or ws place 0) (sym r.leaves);
          wrote = stored;
        } refl;
        kept = λ m i. ⊎_elim (r.kept m)
            (λ (last : IsIn m (s ∷ [])). subst (λ (m : LoggedStep E A). KeepsWord m) (in_one m s last) kept)
            (in_either m order (s ∷ []) i);
      }

-- a step that stores goes aside
stores_aside : (kind : ℕ) → stores kind ≡ true → goes_aside kind ≡ true
stores_aside kind is = ap (λ (b : Bool). b || nat_eq kind invalidate_step || nat_eq kind shelve_step || nat_eq kind unshelve_step) is

-- the place is none of a head or of an attached record
pub record StaysAside {E A W : Type 0} (z : Sizes) (g : PoolState E A W) (place : ℕ) : Type 0 where
  pub heads : (h : ℕ) → h < z.heads → place ≢ head_place z h
  pub cells : (n f : ℕ) → IsNumber z n → f < 5 → place ≡ cell_place z n f → g.status n ≡ attached → ⊥

-- no hazard word and no shelf word is
pub low_aside : {E A W : Type 0} (z : Sizes) (g : PoolState E A W) (place : ℕ) → place ≤ 17 * z.passes → StaysAside z g place
low_aside z g place low = record { heads = λ h lt at. omega arith; cells = λ n f number lt at st. omega arith }

-- nor is a field of a record in another state
pub cell_aside : {E A W : Type 0} (z : Sizes) (g : PoolState E A W) (m f place : ℕ) → IsNumber z m → f < 5 → place ≡ cell_place z m f
    → (g.status m ≡ attached → ⊥) → StaysAside z g place
cell_aside z g m f place is low at other = record {
  heads = λ h lt e. omega arith;
  cells = λ n i number lt e st. let same : n ≡ m = (let one = number.0 in let first = is.0 in omega arith) in
      other (subst (λ (k : ℕ). g.status k ≡ attached) same st);
}

module _ {E A : Type 0} where
  -- a place in an order with one step more is the last one, or one before
  snoc_split : (xs before after : List (LoggedStep E A)) (e s : LoggedStep E A) → xs ++ e ∷ [] ≡ before ++ s ∷ after
      → ((before ≡ xs) × (s ≡ e)) ⊎ ((rest : List (LoggedStep E A)) × (xs ≡ before ++ s ∷ rest))
  snoc_split [] [] after e s is = inl (refl, sym (first_same e s [] after is))
    where
      first_same : (x y : LoggedStep E A) (xs ys : List (LoggedStep E A)) → x ∷ xs ≡ y ∷ ys → x ≡ y
      first_same x y xs ys e = cc
  snoc_split [] (b ∷ before) after e s is = absurd (let long : length (e ∷ []) ≡ length (b ∷ before ++ s ∷ after) = ap (λ l. length l) is in
      let more = length-append before (s ∷ after) in omega arith)
  snoc_split (x ∷ xs) [] after e s is = inr (xs, (let first : x ≡ s = cc in ap (λ (y : LoggedStep E A). y ∷ xs) first))
  snoc_split (x ∷ xs) (b ∷ before) after e s is = let first : x ≡ b = cc in let rest : xs ++ e ∷ [] ≡ before ++ s ∷ after = cc in ⊎_elim
      (λ (c : (before ≡ xs) × (s ≡ e)). inl (
        (ap (λ (l : List (LoggedStep E A)). b ∷ l) c.0
            ∙ ap (λ (y : LoggedStep E A). y ∷ xs) (sym first)),
        c.1,
      ))
      (λ (c : (rest : List (LoggedStep E A)) × (xs ≡ before ++ s ∷ rest)). inr (
        c.0,
        (ap (λ (y : LoggedStep E A). y ∷ xs) first
            ∙ ap (λ (l : List (LoggedStep E A)). b ∷ l) c.1),
      ))
      (snoc_split xs before after e s rest)

  -- one step more
  pub aside_after : (sides : ℕ) (z : Sizes) (opens : List ℕ) (order : List (LoggedStep E A)) (e : LoggedStep E A) → GoAside sides z opens
      order
      → (goes_aside e.entry.step.kind ≡ true → IsAside sides z (replayed opens (entries_of order)) e.entry.step.place)
      → GoAside sides z opens (order ++ e ∷ [])
  aside_after sides z opens order e was last before after s is kind = ⊎_elim
      (λ (c : (before ≡ order) × (s ≡ e)). subst (λ (o : List (LoggedStep E A)). IsAside sides z (replayed opens (entries_of o))
      s.entry.step.place) (sym c.0)
      (subst (λ (t : LoggedStep E A). goes_aside t.entry.step.kind ≡ true → IsAside sides z (replayed opens (entries_of order))
      t.entry.step.place) (sym c.1) last kind))
      (λ (c : (rest : List (LoggedStep E A)) × (order ≡ before ++ s ∷ rest)). was before c.0 s c.1 kind)
      (snoc_split order before after e s is)

-- what can be reached is attached
pub aside_reached : {E A W : Type 0} (sides : ℕ) (z : Sizes) (words : List ℕ) (g : PoolState E A W) → Base sides z words g
    → {opens : List ℕ} → Runs opens words g.order
    → (place : ℕ) → StaysAside z g place → IsAside sides z (replayed opens (entries_of g.order)) place
aside_reached sides z words g b runs place a = record {
  heads = a.heads;
  cells = λ n f number lt at reached. a.cells n f number lt at
      (reached_attached sides z words g b n number (subst (λ (ws : List ℕ). Reached sides z ws n) runs.leaves reached));
}

module _ {E A W : Type 0} (sides : ℕ) (opens : Sizes → List ℕ) (addition : Sizes → List ℕ → PoolState E A W → Type 0) where
  -- a step of this pass at this place changes no word of a head or of an attached record
  abbrev pub StepsAside : Sizes → PassState W → ℕ → Type 0
  StepsAside z q place = (words : List ℕ) (g : PoolState E A W) → Base sides z words g → q.number < z.passes
      → g.of q.number ≡ q → StaysAside z g place

  -- What a kind of step owes: from the facts before it the facts after it, with what is now known of its pass, the states of
  -- the numbers, the changes that took effect and the calls that were placed.
  pub record KeepsRule (kind place word left : ℕ) (z : Sizes) (words : List ℕ) (g : PoolState E A W) (old known : PassState W)
      (status : ℕ → RecordState) (changes : List E) (placed : List A) : Type 0 where
    pub number : known.number ≡ old.number
    pub sizes : known.sizes ≡ z
    pub base : Base sides z (set words place left) (after_step g known status (entry kind place word left changes placed g.order known))
    pub added : addition z (set words place left) (after_step g known status (entry kind place word left changes placed g.order known))

  -- the same with all that the step picks, and what it tells
  pub record Plays (kind place word left : ℕ) (z : Sizes) (words : List ℕ) (g : PoolState E A W) (v : SeatView E A W)
      (then : Me Unit (SeatView E A W) → Type 0) : Type 0 where
    pub known : PassState W
    pub status : ℕ → RecordState
    pub changes : List E
    pub placed : List A
    pub keeps_rule : KeepsRule kind place word left z words g v.known known status changes placed
    -- The new order is that of all steps with this one appended.
    pub tells : (w : SeatView E A W) → w ≡ alone (g.order ++ entry kind place word left changes placed g.order known ∷ []) known
        → MadeStep kind place word left changes placed known v w → then (w, [])

  -- A step keeps the rule where it does so in each state that meets it. The kind may depend on the word that is found.
  pub allows_by : (z : Sizes) (slots id place : ℕ) (kind : ℕ → ℕ) (me : Me Unit (SeatView E A W)) (change noted : ℕ → ℕ)
      (then : ℕ → Me Unit (SeatView E A W) → Type 0) → IsAlone me
      → ((n : ℕ) → stores (kind n) ≡ false → noted n ≡ n) → ((n : ℕ) → goes_aside (kind n) ≡ true
      → (stores (kind n) ≡ true → noted n ≡ change n) × StepsAside z me.0.known place)
      → ((n : ℕ) → only_loads (kind n) ≡ true → change n ≡ noted n)
      → ((words : List ℕ) (g : PoolState E A W) → Base sides z words g → addition z words g → me.0.known.number < z.passes
      → g.of me.0.known.number ≡ me.0.known → me.0.known.sizes ≡ z → get_or words place 0 < 18446744073709551616
      → Plays (kind (get_or words place 0)) place (noted (get_or words place 0)) (change (get_or words place 0)) z words g me.0 (then
      (get_or words place 0)))
      → Allows (Holds sides opens addition z) slots id me place change then
  allows_by z slots id place kind me change noted then lone found stored kept each =
      subst (λ (c : List (ℕ × Unit)). Allows (Holds sides opens addition z) slots id (me.0, c) place change then) (sym lone.0)
      (λ s h deep at fits. let v : SeatView E A W = me.0 in
      let g : PoolState E A W = h.pool in
      let n : ℕ = get_or s.words place 0 in
      let tied = h.ties.each_seat id v at in
      let here : IsIn v.known (all_of v) = subst (λ (u : SeatView E A W). IsIn v.known (all_of u)) (sym lone.1) (0, refl) in
      let mine = tied.each v.known here in
      let did = each s.words g h.base h.added mine.number mine.is mine.sizes fits in
      let e : LoggedStep E A = entry (kind n) place (noted n) (change n) did.changes did.placed g.order did.known in
      let w : SeatView E A W = alone (g.order ++ e ∷ []) did.known in (
        w,
        keeps,
        tt,
        record {
          pool = after_step g did.known did.status e;
          ties = ties_after z s.views g id v did.known did.status e h.ties at lone.1 did.keeps_rule.number did.keeps_rule.sizes refl;
          runs = runs_after (opens z) s.words g.order did.known (kind n) place (noted n) (change n) did.changes did.placed h.runs
              (found n) (λ is. (stored n (stores_aside (kind n) is)).0 is) (kept n);
          aside = aside_after sides z (opens z) g.order e h.aside
              (λ is. aside_reached sides z s.words g h.base h.runs (e.entry.step.place) ((stored n is).1 s.words g h.base mine.number
              mine.is));
          base = did.keeps_rule.base;
          added = did.keeps_rule.added;
        },
        did.tells w refl record { so_far = g.order; begins = tied.begins; own_steps = sym mine.steps; is = refl },
      ))

  -- the same for a step of one kind
  pub allows : (z : Sizes) (slots id place kind : ℕ) (me : Me Unit (SeatView E A W)) (change noted : ℕ → ℕ)
      (then : ℕ → Me Unit (SeatView E A W) → Type 0) → IsAlone me
      → ((n : ℕ) → stores kind ≡ false → noted n ≡ n) → ((n : ℕ) → goes_aside kind ≡ true
      → (stores kind ≡ true → noted n ≡ change n) × StepsAside z me.0.known place)
      → ((n : ℕ) → only_loads kind ≡ true → change n ≡ noted n)
      → ((words : List ℕ) (g : PoolState E A W) → Base sides z words g → addition z words g → me.0.known.number < z.passes
      → g.of me.0.known.number ≡ me.0.known → me.0.known.sizes ≡ z → get_or words place 0 < 18446744073709551616
      → Plays kind place (noted (get_or words place 0)) (change (get_or words place 0)) z words g me.0 (then (get_or words place 0)))
      → Allows (Holds sides opens addition z) slots id me place change then
  allows z slots id place kind me change noted then lone found stored kept each = allows_by z slots id place
      (λ _. kind) me change noted then lone found stored kept each
