-- The detaching exchange of a list: where it may be made, and what it leaves.
use Rattle.std.specs.Prelude.{◌||◌}
use Rattle.std.proofs.Common.{◌≡◌, ◌≢◌, ◌⊎◌, inl, inr, ⊎_elim, ℕ, zero, suc, ◌+◌, ◌*◌, ◌<◌, ◌≤◌, Bool, true, false, cond, nat_eq}
use Rattle.std.proofs.Common.{List, [], ◌∷◌, length, get_or, set, map, take, sym, refl, ap, ◌∙◌, subst, arith, eq-eqb, ne_eqb}
use Rattle.std.proofs.Math.Decide.{ℕ_discrete}
use mathlib.Core.Logic.{dite}
use mathlib.Core.Option.{some, some-injective}
use lib.ListN.{get_elem?}
use Rattle.pp_link.specs.declared.layout.Sizes.{Sizes}
use Rattle.pp_link.specs.Links.{target, invalid_bit, flag_bit, leaf_bit}
use Rattle.pp_link.specs.Places.{IsNumber, total, cell_place}
use Rattle.pp_link.specs.Words.{head_word, cell_word}
use Rattle.pp_model.specs.declared.Change.{Change}
use Rattle.pp_model.specs.History.{contents_of}
use Rattle.pp_rule.specs.declared.views.ChainLink.{ChainLink}
use Rattle.pp_rule.specs.Lists.{IsIn, Once, times}
use Rattle.pp_rule.specs.Orders.{log_of, placed_by}
use Rattle.pp_rule.specs.Views.{slot, guarding}
use Rattle.pp_rule.specs.States.{attached, IsUsed, IsFrozen, Keeps, Held}
use Rattle.pp_rule.specs.Rule.{Base}
use Rattle.pp_rule.specs.Steps.{IsUnused}
use Rattle.pp_rule.specs.Detach.{Detaches, Detached}
use Rattle.pp_rule.specs.Paths.{links_of, link_of, led_to, IsChained, IsChainTo}
use Rattle.pp_lists.specs.declared.own.ListOwn.{ListOwn}
use Rattle.pp_lists.specs.declared.own.Gathered.{Gathered}
use Rattle.pp_lists.specs.Walks.{Heap, heap, Source, at_head, at_record, word_at, source_place, IsLive, IsOn, Sane, Listed}
use Rattle.pp_lists.specs.Walks.{Joined, Intact, numbers, Taken}
use Rattle.pp_lists.specs.Walks.Joined.{done, more}
use Rattle.pp_lists.specs.Lists.{ListPass, ListState, Walks, Lists, IsOwnSource, MayUnlink, chain_links, whole_chain, list_chain}
use Rattle.pp_lists.proofs.Walking.{finds_detached, real}
use Rattle.pp_lists.proofs.Chaining.{in_none, in_first, in_rest, in_cases, Link, each_link, chain_up, no_other}
use Rattle.pp_lists.proofs.Shaping.{listed_detached, mapped_detached, intact_detached, still, is_linked}
use Rattle.pp_rule.proofs.Learnt.{never_learnt}
use Rattle.pp_rule.proofs.Occurrences.{not_counted}
use Rattle.pp_lists.proofs.Heaps.{sane_of, rewired_of, place_of_live, cell_once}
use Rattle.pp_lists.proofs.Keeping.{Steadily, kept_pass, lists_quiet}
use Rattle.pp_lists.proofs.Leaving.{rewired_flag, leaves_on}

-- The chain in the order in which its links lead.

counted_first : (x n : ℕ) (ns : List ℕ) → times x (n ∷ ns) ≡ 0 → (n ≢ x) × (times x ns ≡ 0)
unfolding times
counted_first x n ns e = dite (ℕ_discrete n x)
    (λ hit. let bad : suc (times x ns) ≡ 0 = ap (λ (b : Bool). cond b (suc (times x ns)) (times x ns)) (sym (eq-eqb n x hit))
    ∙ e in
    absurd (omega arith))
    (λ ne. (ne, ap (λ (b : Bool). cond b (suc (times x ns)) (times x ns)) (sym (ne_eqb n x ne)) ∙ e))

left_links : (cs : List Gathered) → map link_of (chain_links cs) ≡ links_of 1 (numbers cs)
unfolding links_of
left_links [] = refl
left_links (c ∷ cs) = ap (λ (ls : List (ℕ × ℕ)). (c.number, 0) ∷ ls) (left_links cs)

left_in : (n side : ℕ) (ns : List ℕ) → IsIn n ns → side ≡ 0 → IsIn (n, side) (links_of 1 ns)
unfolding links_of
left_in n side [] i e = absurd (in_none n i)
left_in n side (m ∷ ns) i e = ⊎_elim
    (λ (same : m ≡ n). in_first (m, 0) (n, side) (links_of 1 ns) (ap (λ (x : ℕ). (x, 0)) same ∙ ap (λ (x : ℕ). (n, x)) (sym e)))
    (λ (j : IsIn n ns). in_rest (m, 0) (n, side) (links_of 1 ns) (left_in n side ns j e)) (in_cases m n ns i)

-- the numbers to which the links of a chain lead
led_on : (x : ℕ) (c : Gathered) (cs : List Gathered) → Joined (target c.link) cs x → times x (numbers cs) ≡ 0
    → led_to x (chain_links (c ∷ cs)) ≡ numbers cs
unfolding led_to
led_on x c [] (done e) none = drops (nat_eq (target c.link) 0) (nat_eq (target c.link) x) (eq-eqb (target c.link) x e)
  where
    drops : (a b : Bool) → b ≡ true → cond (a || b) [] (target c.link ∷ []) ≡ []
    drops true b is = refl
    drops false true is = refl
    drops false false is = absurd (cc)
led_on x c (d ∷ cs) (more ne number flag valid rest) none = let y = counted_first x d.number (numbers cs) none in
    ap (λ (b : Bool). cond (b || nat_eq (target c.link) x) (led_to x (chain_links (d ∷ cs)))
    (target c.link ∷ led_to x (chain_links (d ∷ cs)))) (ne_eqb (target c.link) 0 ne)
    ∙ (ap (λ (b : Bool). cond b (led_to x (chain_links (d ∷ cs))) (target c.link ∷ led_to x (chain_links (d ∷ cs))))
    (ne_eqb (target c.link) x (λ e. y.0 (number ∙ e)))
    ∙ (ap (λ (n : ℕ). n ∷ led_to x (chain_links (d ∷ cs))) (sym number)
    ∙ ap (λ (ns : List ℕ). d.number ∷ ns) (led_on x d cs rest y.1)))

-- each of its links but the last leads to a record of it
led_each : (x : ℕ) (c : Gathered) (cs : List Gathered) (k : ℕ) → Joined (target c.link) cs x → times x (numbers cs) ≡ 0
    → k ≤ length cs
    → k ≤ length (led_to x (take k (chain_links (c ∷ cs))))
unfolding led_to
led_each x c cs zero j none le = omega arith
led_each x c [] (suc k) j none le = absurd (omega arith)
led_each x c (d ∷ cs) (suc k) (more ne number flag valid rest) none le = let y = counted_first x d.number (numbers cs) none in
    let rest_long = led_each x d cs k rest y.1 (omega arith) in
    let one : led_to x (take (suc k) (chain_links (c ∷ d ∷ cs))) ≡ target c.link ∷ led_to x (take k (chain_links (d ∷ cs))) =
    ap (λ (b : Bool). cond (b || nat_eq (target c.link) x) (led_to x (take k (chain_links (d ∷ cs))))
    (target c.link ∷ led_to x (take k (chain_links (d ∷ cs))))) (ne_eqb (target c.link) 0 ne)
    ∙ ap (λ (b : Bool). cond b (led_to x (take k (chain_links (d ∷ cs))))
    (target c.link ∷ led_to x (take k (chain_links (d ∷ cs)))))
    (ne_eqb (target c.link) x (λ e. y.0 (number ∙ e))) in
    let long = ap (λ (ns : List ℕ). length ns) one in omega arith

links_long : (cs : List Gathered) → length (chain_links cs) ≡ length cs
links_long [] = refl
links_long (c ∷ cs) = ap suc (links_long cs)

whole_chained : (cs : List Gathered) (n guard x : ℕ) → cs ≢ [] → Joined n cs x → times x (numbers cs) ≡ 0
    → IsChained 1 n (whole_chain cs guard x)
whole_chained [] n guard x filled j none = absurd (filled refl)
whole_chained (c ∷ cs) n guard x filled (more ne number flag valid rest) none = let y = counted_first x c.number
    (numbers cs) none in record {
      links_are = left_links (c ∷ cs);
      records_are = ap (λ (m : ℕ). m ∷ numbers cs) number ∙ ap (λ (ns : List ℕ). n ∷ ns) (sym (led_on x c cs rest y.1));
      reached = λ k lt. let long = links_long (c ∷ cs) in let few = led_each x c cs k rest y.1 (omega arith) in omega arith;
      valid = λ l other i. other i;
    }

module _ (z : Sizes) (t : Heap) where
  -- a record of the chain leads to the chain or to its end
  each_target : (n m : ℕ) (cs : List Gathered) (x : ℕ) → Joined n cs x → Intact z t cs → IsIn m (numbers cs)
      → IsIn (target (t.link m)) (numbers cs) ⊎ (target (t.link m) ≡ x)
  unfolding Intact
  each_target n m [] x (done e) i inside = absurd (in_none m inside)
  each_target n m (c ∷ cs) x (more ne number flag valid rest) i inside = ⊎_elim
      (λ (e : c.number ≡ m). let to : target (t.link m) ≡ target c.link = ap (λ (k : ℕ). target (t.link k)) (sym e)
      ∙ ap target i.2 in
      ⊎_elim (λ (y : IsIn (target c.link) (numbers cs)). inl (in_rest c.number (target (t.link m)) (numbers cs)
      (subst (λ (k : ℕ). IsIn k (numbers cs)) (sym to) y))) (λ (y : target c.link ≡ x). inr (to ∙ y))
      (first_or_end (target c.link) cs x rest))
      (λ (j : IsIn m (numbers cs)). ⊎_elim (λ (y : IsIn (target (t.link m)) (numbers cs)). inl
      (in_rest c.number (target (t.link m)) (numbers cs) y))
      inr (each_target (target c.link) m cs x rest i.3 j))
      (in_cases c.number m (numbers cs) inside)
    where
      first_or_end : (n : ℕ) (cs : List Gathered) (x : ℕ) → Joined n cs x → IsIn n (numbers cs) ⊎ (n ≡ x)
      first_or_end n [] x (done e) = inr e
      first_or_end n (c ∷ cs) x (more ne number flag valid rest) = inl (in_first c.number n (numbers cs) number)

  -- a link of the chain, as it was read, is that of its record
  link_read : (cs : List Gathered) → Intact z t cs → (l : ChainLink) → IsIn l (chain_links cs)
      → IsIn l.number (numbers cs) × (l.side ≡ 0) × (t.link l.number ≡ l.word)
  unfolding Intact
  link_read [] i l inside = absurd (in_none l inside)
  link_read (c ∷ cs) i l inside = ⊎_elim
      (λ (e : record { number = c.number; side = 0; word = c.link } ≡ l).
      subst (λ (l : ChainLink). IsIn l.number (numbers (c ∷ cs)) × (l.side ≡ 0) × (t.link l.number ≡ l.word)) e
      (in_first c.number c.number (numbers cs) refl, refl, i.2))
      (λ (j : IsIn l (chain_links cs)). let y = link_read cs i.3 l j in (in_rest c.number l.number (numbers cs) y.0, y.1, y.2))
      (in_cases record { number = c.number; side = 0; word = c.link } l (chain_links cs) inside)

  module _ (sane : Sane z t) (l : Listed z t) where
    -- the end of the chain is attached
    pub chain_on : (n : ℕ) (cs : List Gathered) (x : ℕ) → Joined n cs x → Intact z t cs → IsOn z t n → IsOn z t x
    unfolding Intact
    chain_on n [] x (done e) i on_n = subst (IsOn z t) e on_n
    chain_on n (c ∷ cs) x (more ne number flag valid rest) i on_n = chain_on (target c.link) cs x rest i.3
        (subst (λ (w : ℕ). IsOn z t (target w)) i.2 (sane.live (at_record c.number) (i.0, i.1)))

    -- and has a greater key than the records of the chain
    chain_below : (n m : ℕ) (cs : List Gathered) (x : ℕ) → Joined n cs x → Intact z t cs → IsIn m (numbers cs) → x ≢ 0
        → t.key m < t.key x
    unfolding Intact
    chain_below n m [] x (done e) i inside real_x = absurd (in_none m inside)
    chain_below n m (c ∷ cs) x (more ne number flag valid rest) i inside real_x = ⊎_elim
        (λ (e : c.number ≡ m). let up = chain_up z t sane l (target c.link) cs x rest i.3 real_x in
        let some_next : target (t.link c.number) ≢ 0 = λ nil. up.0 (sym (ap target i.2) ∙ nil) in
        let gap = l.rising c.number i.0 (is_linked (t.status c.number) i.1) (ap invalid_bit i.2 ∙ valid) some_next in
        let gap' : t.key c.number < t.key (target c.link) = subst (λ (w : ℕ). t.key c.number < t.key (target w)) i.2 gap in
        let le = up.1 in let k = ap t.key e in omega arith)
        (λ (j : IsIn m (numbers cs)). chain_below (target c.link) m cs x rest i.3 j real_x)
        (in_cases c.number m (numbers cs) inside)

    -- what stands in the rest of the chain has a greater key than its first record
    chain_above : (c : Gathered) (m : ℕ) (cs : List Gathered) (x : ℕ) → invalid_bit c.link ≡ 0 → Joined (target c.link) cs x
        → Intact z t (c ∷ cs) → IsIn m (numbers cs) → t.key c.number < t.key m
    unfolding Intact
    chain_above c m [] x valid (done e) i inside = absurd (in_none m inside)
    chain_above c m (d ∷ cs) x valid (more ne number flag valid' rest) i inside =
        let some_next : target (t.link c.number) ≢ 0 = λ nil. ne (sym (ap target i.2) ∙ nil) in
        let gap = l.rising c.number i.0 (is_linked (t.status c.number) i.1) (ap invalid_bit i.2 ∙ valid) some_next in
        let gap' : t.key c.number < t.key d.number = subst (λ (n : ℕ). t.key c.number < t.key n)
        (ap target i.2 ∙ sym number) gap in ⊎_elim
        (λ (e : d.number ≡ m). subst (λ (n : ℕ). t.key c.number < t.key n) e gap')
        (λ (j : IsIn m (numbers cs)). let more_up = chain_above d m cs x valid' rest i.3 j in omega arith)
        (in_cases d.number m (numbers cs) inside)

    -- so each record stands in it once
    chain_once : (n : ℕ) (cs : List Gathered) (x : ℕ) → Joined n cs x → Intact z t cs → Once (numbers cs)
    unfolding Intact
    chain_once n [] x j i k m a b at_a at_b same = absurd (in_none a (k, at_a))
    chain_once n (c ∷ cs) x (more ne number flag valid rest) i k m a b at_a at_b same =
        go (chain_once (target c.link) cs x rest i.3) k m at_a at_b
      where
        high : (a : ℕ) (k : ℕ) → get_elem? (numbers cs) k ≡ some a → t.key c.number < t.key a
        high a k at = chain_above c a cs x valid rest i (k, at)

        go : Once (numbers cs) → (k m : ℕ) → get_elem? (numbers (c ∷ cs)) k ≡ some a → get_elem? (numbers (c ∷ cs)) m ≡ some b
            → k ≡ m
        go once zero zero at_a at_b = refl
        go once zero (suc m) at_a at_b = let up = high b m at_b in
            let is : t.key c.number ≡ t.key b = ap t.key (some-injective c.number a at_a ∙ same) in absurd (omega arith)
        go once (suc k) zero at_a at_b = let up = high a k at_a in
            let is : t.key c.number ≡ t.key a = ap t.key (some-injective c.number b at_b ∙ sym same) in absurd (omega arith)
        go once (suc k) (suc m) at_a at_b = ap suc (once k m a b at_a at_b same)

-- the exchange of the pass q, which finds the expected word
module _ (z : Sizes) (words : List ℕ) (g : ListState) (q : ListPass) (place guard first new : ℕ) (b : Base 1 z words g)
    (lists : Lists z words g)
    (pass : q.number < z.passes) (is : g.of q.number ≡ q) (may : MayUnlink z q.walk q.own place first new)
    (hit : get_or words place 0 ≡ first) where
  word_is : word_at (heap z words g.status) may.source ≡ first
  unfolding cell_word head_word
  word_is = go may.source may.at
    where
      go : (s : Source) → place ≡ source_place z s → word_at (heap z words g.status) s ≡ first
      go (at_head h) at = ap (λ (k : ℕ). get_or words k 0) (sym at) ∙ hit
      go (at_record n) at = ap (λ (k : ℕ). get_or words k 0) (sym at) ∙ hit

  -- the source is a head, or attached since its link has no FLAG
  live : IsLive z (heap z words g.status) may.source
  live = go may.source may.own_source word_is
    where
      go : (s : Source) → IsOwnSource z q.walk s → word_at (heap z words g.status) s ≡ first → IsLive z (heap z words g.status) s
      go (at_head h) own e = own
      go (at_record n) own e = let j : ℕ = own.0 in
          let h = subst (λ (v : ListPass). (slot v j).held ≡ true → Held z words g.status (slot v j)) is
          (b.hazards.held q.number j pass own.1) own.2 in
          let number : IsNumber z n = subst (IsNumber z) own.3 h.number in
          let used : IsUsed (g.status n) = subst (λ (k : ℕ). IsUsed (g.status k)) own.3 h.used in
          let plain : flag_bit (cell_word words z n 2) ≡ 0 = ap flag_bit e ∙ (let p = may.plain in omega arith) in
          (number, lists.listed.marked n number used plain)

  walks : Walks z (heap z words g.status) (log_of g.order) q.number (slot q) q.own (placed_by q.number g.order)
  walks = subst (λ (v : ListPass). Walks z (heap z words g.status) (log_of g.order) q.number (slot v) v.own
      (placed_by q.number g.order)) is
      (lists.each q.number pass)

  -- an intact chain begins with an attached record, so what was gathered stands
  intact : Intact z (heap z words g.status) q.own.chain
  unfolding Intact
  intact = go q.own.chain refl may.joined
    where
      go : (cs : List Gathered) → q.own.chain ≡ cs → Joined (target first) cs (target new)
          → Intact z (heap z words g.status) q.own.chain
      go [] e j = subst (Intact z (heap z words g.status)) (sym e) tt
      go (c ∷ cs) e (more ne number flag valid rest) = walks.gathering.intact may.gathered
          (⊎_elim (λ (nil : target first ≡ 0). absurd (ne nil))
          (λ (y : IsNumber z (target first) × (g.status (target first) ≡ attached)). ap g.status (sym may.leads) ∙ y.1)
          (subst (λ (w : ℕ). IsOn z (heap z words g.status) (target w)) word_is ((sane_of z words g b).live may.source live)))

  joined : Joined (target (word_at (heap z words g.status) may.source)) q.own.chain (target new)
  joined = subst (λ (w : ℕ). Joined (target w) q.own.chain (target new)) (sym word_is) may.joined

  end_on : IsOn z (heap z words g.status) (target new)
  end_on = chain_on z (heap z words g.status) (sane_of z words g b) lists.listed
      (target (word_at (heap z words g.status) may.source)) q.own.chain
      (target new) joined intact ((sane_of z words g b).live may.source live)

  -- the record behind the chain doesn't stand in it
  behind : IsIn (target new) (numbers q.own.chain) → ⊥
  behind i = ⊎_elim
      (λ (nil : target new ≡ 0). let m = each_link z (heap z words g.status)
      (target (word_at (heap z words g.status) may.source)) (target new)
      q.own.chain (target new) joined intact i in real z (target new) m.number nil)
      (λ (y : IsNumber z (target new) × (g.status (target new) ≡ attached)). let up = chain_below z (heap z words g.status)
      (sane_of z words g b)
      lists.listed (target (word_at (heap z words g.status) may.source)) (target new) q.own.chain (target new) joined intact i
      (real z (target new) y.0) in omega arith)
      end_on

  -- so the chain stands in the order in which its links lead
  pub list_ordered : IsChainTo 1 guard (target first) (target new) (list_chain q.walk q.own guard first new)
  list_ordered = record {
    chained = whole_chained q.own.chain (target first) guard (target new) may.some may.joined
        (not_counted (target new) (numbers q.own.chain) behind);
    guard_is = refl;
    frontier_is = refl;
  }

  pub list_detaches : guard < 4 → guarding q guard ≡ target new → IsUnused guard q
      → Detaches 1 z words g q (list_chain q.walk q.own guard first new) place (target new) new
  list_detaches four named unused = let sane = sane_of z words g b in let cs : List Gathered = q.own.chain in
      let n0 : ℕ = target (word_at (heap z words g.status) may.source) in let x : ℕ = target new in
      let range = place_of_live z words g may.source b.wide live in let at = may.at in
      let mem : (n : ℕ) → IsIn n (numbers cs) → Link z (heap z words g.status) n = λ n i. each_link z
      (heap z words g.status) n0 n cs x joined intact i in
      let s_out : (n : ℕ) → may.source ≡ at_record n → IsIn n (numbers cs) → ⊥ = λ n e i. (let flag = (mem n i).flag in
      let plain : flag_bit (cell_word words z n 2) ≡ 0 = ap (λ (s : Source). flag_bit (word_at (heap z words g.status) s)) (sym e)
      ∙ (ap flag_bit word_is ∙ (let p = may.plain in omega arith)) in omega arith) in
      record {
        members = λ n i. ((mem n i).number, (mem n i).state);
        members_once = chain_once z (heap z words g.status) sane lists.listed n0 cs x joined intact;
        inside = λ n side i lt. let zero_side : 0 ≡ side = omega arith in
            subst (λ (k : ℕ). (target (cell_word words z n (2 + k)) ≡ 0)
            ⊎ (IsIn (target (cell_word words z n (2 + k))) (numbers cs)
            ⊎ (target (cell_word words z n (2 + k)) ≡ x))) zero_side
            (inr (each_target z (heap z words g.status) n0 n cs x joined intact i));
        valid = λ n side i lt. left_in n side (numbers cs) i (omega arith);
        links = λ l i. let y = link_read z (heap z words g.status) cs intact l i in
            let word : cell_word words z l.number (2 + l.side) ≡ l.word = ap (λ (k : ℕ). cell_word words z l.number (2 + k)) y.1
            ∙ y.2 in (
              y.0,
              (let s = y.1 in omega arith),
              record {
                target_is = ap target word;
                flag_is = ap flag_bit word;
                leaf_is = ap leaf_bit word;
              },
            );
        heads = λ h lt ne inside. no_other z (heap z words g.status) sane lists.listed may.source (at_head h) n0
            (target (head_word words z h)) cs x
            live lt refl joined intact (λ e. ne (ap (source_place z) e ∙ sym may.at)) (λ k e. head_record h k e) refl inside;
        others = λ n side is_n lt st out ne inside. let zero_side : side ≡ 0 = omega arith in
            no_other z (heap z words g.status) sane lists.listed may.source (at_record n) n0
            (target (cell_word words z n 2)) cs x live (is_n, st) refl
            joined intact (λ e. ne (ap (λ (k : ℕ). cell_place z n (2 + k)) zero_side ∙ (ap (source_place z) e ∙ sym may.at)))
            (λ k e i. out (subst (λ (y : ℕ). IsIn y (numbers cs)) (record_record n k e) i)) refl
            (subst (λ (k : ℕ). IsIn (target (cell_word words z n (2 + k))) (numbers cs)) zero_side inside);
        frontier = ⊎_elim inl (λ (y : IsNumber z x × (g.status x ≡ attached)). inr (y.0, y.1, behind)) end_on;
        new_is = (may.small, (let p = may.new_plain in omega arith), refl);
        place_is = record {
          high = (subst (λ (k : ℕ). k < total z) (sym at) range.0, subst (λ (k : ℕ). 17 * z.passes < k) (sym at) range.1);
          holder = λ n f is_n lf e. let y = holder_of may.source live s_out n f is_n lf (e ∙ at) in (y.0, y.1, y.2);
          unlearnt = λ r i l lr li held i_l e. let h = b.hazards.held r i lr li held in let y = h.learnt l i_l in
              not_learnt may.source live (slot (g.of r) i).named l.0 l.1 h.number y.0 (e ∙ at) y.1 y.2 word_is;
        };
        stays = λ n f is_n lf e. (holder_of may.source live s_out n f is_n lf (e ∙ at)).3;
        guard = four;
        named = named;
        unused = unused;
      }
    where
      head_record : (h k : ℕ) → at_head h ≡ at_record k → IsIn k (numbers q.own.chain) → ⊥
      head_record h k e i = cc

      record_record : (n k : ℕ) → at_record n ≡ at_record k → k ≡ n
      record_record n k e = cc

      holder_of : (s : Source) → IsLive z (heap z words g.status) s
          → ((n : ℕ) → s ≡ at_record n → IsIn n (numbers q.own.chain) → ⊥) → (n f : ℕ)
          → IsNumber z n → f < 5 → cell_place z n f ≡ source_place z s
          → (2 ≤ f) × (f < 4) × (g.status n ≡ attached) × (IsIn n (numbers q.own.chain) → ⊥)
      holder_of (at_head h) lv out n f is_n lf e = absurd (let one : 1 ≤ n = is_n.0 in let lt = lv in omega arith)
      holder_of (at_record m) lv out n f is_n lf e = let y = cell_once z n m f 2 is_n.0 lv.0.0 lf (omega arith) e in
          ((let two = y.1 in omega arith), (let two = y.1 in omega arith), ap g.status y.0 ∙ lv.1, out n (ap at_record (sym y.0)))

      not_learnt : (s : Source) → IsLive z (heap z words g.status) s → (n side word : ℕ) → IsNumber z n → side < 2
          → cell_place z n (2 + side) ≡ source_place z s → Keeps word (cell_word words z n (2 + side)) → IsFrozen word
          → word_at (heap z words g.status) s ≡ first → ⊥
      not_learnt (at_head h) lv n side word is_n lt e stays frozen w = let one : 1 ≤ n = is_n.0 in let lt' = lv in
          absurd (omega arith)
      not_learnt (at_record m) lv n side word is_n lt e stays frozen w =
          let y = cell_once z n m (2 + side) 2 is_n.0 lv.0.0 (omega arith) (omega arith) e in
          let now : cell_word words z n (2 + side) ≡ first = ap (λ (k : ℕ). cell_word words z k (2 + side)) y.0
          ∙ (ap (cell_word words z m) y.1 ∙ w) in
          let plain = may.plain in never_learnt word (cell_word words z n (2 + side)) stays frozen (omega arith)

  pub list_detached : (g' : ListState) → Base 1 z (set words place new) g'
      → Detached z g g' q (list_chain q.walk q.own guard first new)
      → Lists z (set words place new) g'
  list_detached g' b' d = let t : Heap = heap z words g.status in let t' : Heap = heap z (set words place new) g'.status in
      let sane = sane_of z words g b in let sane' = sane_of z (set words place new) g' b' in
      let cs : List Gathered = q.own.chain in
      let log : List Change = log_of g.order in
      let plain : flag_bit (word_at t may.source) ≡ 0 = ap flag_bit word_is ∙ (let p = may.plain in omega arith) in
      let new_plain : flag_bit new ≡ 0 = (let p = may.new_plain in omega arith) in
      let taken : Taken z t t' may.source new cs = record {
        wired = rewired_of z words g g'.status may.source place new b.wide live may.at;
        live = live;
        plain = plain;
        new_plain = new_plain;
        new_untagged = (let p = may.new_plain in omega arith);
        new_bare = may.new_plain;
        new_valid = (let p = may.new_plain in omega arith);
        joined = joined;
        intact = intact;
        inside = λ n i. (q.number, (guard, d.inside n i));
        outside = d.outside;
      } in
      let steady : Steadily z t t' log log = record {
        grown = omega arith;
        same = λ n _. refl;
        finds = λ k a n _ seen' f. inl
            (finds_detached z t t' may.source new cs k a sane sane' lists.listed taken.wired live plain new_plain joined
            intact n seen' f);
        was = λ n _ st. (still z t t' may.source new cs sane sane' lists.listed taken n st).0;
        intact = λ n ds x _ j st i. intact_detached z t t' may.source new cs sane sane' lists.listed taken n ds x j i
            (λ _. (still z t t' may.source new cs sane sane' lists.listed taken n st).1);
      } in
      lists_quiet z words (set words place new) g g' b b' d.order
      (listed_detached z t t' may.source new cs sane sane' lists.listed taken)
      (mapped_detached z t t' may.source new cs sane sane' lists.listed taken (contents_of log) lists.mapped)
      (λ p lt. kept_pass z words (set words place new) g g' b b' log steady p lt (d.passes p lt) (placed_by p g.order)
      (lists.each p lt))
      (leaves_on z t t' (λ p. (g.of p).own.left) (λ p. (g'.of p).own.left)
      (λ p lt. ap (λ (o : ListOwn). o.left) (d.passes p lt).own)
      (λ n is_n st. (
        (still z t t' may.source new cs sane sane' lists.listed taken n st).0,
        rewired_flag z t t' may.source new taken.wired plain new_plain n is_n,
      )) lists.leaves)
      lists
