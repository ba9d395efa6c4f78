-- A seek that tries to come to an internal record.
use Rattle.std.proofs.Common.{◌≡◌, ◌≢◌, ◌⊎◌, inl, inr, ℕ, ◌+◌, ◌-◌, ◌%◌, ◌<◌, ◌≤◌, Bool, true, false, cond}
use Rattle.std.proofs.Common.{List, [], ◌∷◌, ◌++◌, length, Option, Some, None}
use Rattle.std.proofs.Common.{refl, sym, ap, ◌∙◌, subst, arith, eq-eqb, ne_eqb}
use Rattle.std.specs.Prelude.{nat_eq, nat_lt}
use Rattle.pp_link.specs.declared.layout.Sizes.{Sizes}
use Rattle.pp_link.specs.Links.{bit, word_of, target, flag_bit, tag_bit, invalid_bit, leaf_bit}
use Rattle.pp_link.specs.Places.{cell_place}
use Rattle.pp_model.specs.Calls.{key_of}
use Rattle.pp_rule.specs.Orders.{confirm_step, read_step}
use Rattle.pp_rule.specs.declared.views.Halves.{Halves}
use Rattle.pp_rule.specs.declared.views.WalkSlot.{WalkSlot}
use Rattle.pp_rule.specs.Views.{slot}
use Rattle.pp_rule.specs.Steps.{MadeQuietStep, holding}
use Rattle.pp_rule.proofs.Slots.{slot_here, slot_else}
use Rattle.pp_base.specs.Sources.{side_number}
use Rattle.pp_trees.specs.declared.own.TreeOwn.{TreeOwn}
use Rattle.pp_trees.specs.declared.own.Passed.{Passed}
use Rattle.pp_trees.specs.Trees.{side, inf0, inf2}
use Rattle.pp_trees.specs.TaggedPaths.{Joined}
use Rattle.pp_trees.specs.Searches.{TreePass}
use Rattle.pp_trees.specs.Edges.{TreeView}
use Rattle.pp_trees.specs.Seeks.{over_edge, came_over}
use Rattle.pp_trees.proofs.Walking.{side_left}
use Rattle.pp_trees.proofs.Seeking.{joined_more}
use Rattle.pp_seek.specs.declared.keeping.Words.{Words}
use Rattle.pp_seek.specs.declared.seek.Above.{Above}
use Rattle.pp_seek.specs.declared.seek.Spot.{Spot}
use Rattle.pp_seek.specs.declared.turn.Next.{Next}
use Rattle.pp_seek.specs.declared.turn.Down.{Down}
use Rattle.pp_seek.specs.declared.turn.Down.TheVariants as downs
use Rattle.pp_base.specs.Named.{confirms}
use Rattle.pp_seek.specs.Trails.{IsSilent, SameRest, Trail, Clears, SameCall, reads}
use Rattle.pp_seek.specs.Keeping.{IsOf, KeepsOnly}
use Rattle.pp_seek.specs.Seeking.{words_by, words_of, Over, LetsAllGo, IsNear}
use Rattle.pp_seek.specs.Seeking.{Backs, width, further_spot, LosesThere, SecondOther, MovesThere, Confirms, ComesFurther, CameOn}
use Rattle.pp_seek.proofs.Trailing.{trail_one, trail_both, front_cleared, rest_by}
use Rattle.pp_seek.proofs.Letting.{call_by, call_on}
use Rattle.pp_seek.proofs.Going.{word_used, lets_go, none_of, go_after}
use Rattle.pp_seek.proofs.Coming.{tag_of}

-- a quiet step, by its name
unfoldable pub step_trail : (kind place word : ℕ) (known : TreePass) (v w : TreeView) → IsSilent kind → SameRest v.known known
    → MadeQuietStep kind place word word known v w → Trail v w
step_trail kind place word known v w low rest made =
    trail_one (record { kind = kind; place = place; word = word }) known v w low rest made

-- The second load found another word: nothing changed, and the pass goes back.
module _ (z : Sizes) (s : Spot) (n : Next) (second : ℕ) (v v1 v2 : TreeView)
    (made : MadeQuietStep confirm_step (cell_place z (slot v.known s.word).named
    (2 + side_number n.side)) second second v.known v v1)
    (other : second ≢ word_of n.link) where
  confirm_trail : Trail v v1
  confirm_trail = step_trail confirm_step (cell_place z (slot v.known s.word).named
      (2 + side_number n.side)) second v.known v v1 (inl (omega arith, omega arith)) (rest_by v.known _ _) made

  same_known : v1.known ≡ v.known
  same_known = ap (λ (u : TreeView). u.known) made.is

  seconds : (c : Clears v1 v2) → SecondOther z s n v (trail_both v v1 v2 confirm_trail c.trail).steps
  unfolding confirm_trail step_trail trail_one
  seconds c = record {
    kind = confirm_step;
    second = second;
    saw = front_cleared (record {
      kind = confirm_step;
      place = cell_place z (slot v.known s.word).named (2 + side_number n.side);
      word = second;
    } ∷ []) v v1 v2 confirm_trail c refl;
    which = inl refl;
    other = other;
  }

  loses : Clears v1 v2 → MovesThere z s n v v2
  loses c = (record { trail = trail_both v v1 v2 confirm_trail c.trail; cause = inl (seconds c) }, seconds c)

  pub came_back : (d : Down) → Backs s v1 v2 d → CameOn z s n v v2 d
  came_back downs.Moved b = (record { stands = b.0.stands; own = b.0.own ∙ ap (λ (q : TreePass). q.own) same_known }, loses b.1)
  came_back downs.Broken b = (
    go_after v v1 v2 (call_by v.known.own v1.known.own (ap (λ (q : TreePass). q.own) same_known)) b.0,
    (loses b.1).0,
  )
  came_back (downs.Came next) b = absurd b
  came_back (downs.Ended sought) b = absurd b

-- what a step tells of the word that was expected
pub confirmed_word : {kind : ℕ} {known : TreePass} {v w : TreeView} (place found first : ℕ)
    → MadeQuietStep kind place found found known v w → found ≡ first
    → MadeQuietStep kind place first first known v w
confirmed_word {kind} {known} {v} {w} place found first made e = subst (λ (x : ℕ). MadeQuietStep kind place x x known v w) e made

-- the record is held
pub came_held : (n : Next) (sd place first leaf key : ℕ) (value : Halves) (v v1 : TreeView) → n.word < 5 → length v.known.walk ≡ 5
    → MadeQuietStep confirm_step place first first (came_over n.word sd first leaf key value v.known) v v1
    → (slot v1.known n.word).held ≡ true
came_held n sd place first leaf key value v v1 low five made = ap (λ (x : WalkSlot). x.held)
    (slot_here v.known v1.known n.word (holding (target first) key value) (ap (λ (u : TreeView). u.known.walk) made.is)
    (omega arith))

-- over an edge a call stays the same
over_call : (i : ℕ) (c : Passed) (first : ℕ) (own : TreeOwn) → SameCall own (over_edge i c first own)
over_call i c first own = go (nat_eq (tag_bit first) 0)
  where
    go : (b : Bool) → SameCall own (cond b (record own { at = i; top = i; path = []; flag = 2 })
        (record own { at = i; path = own.path ++ c ∷ []; flag = 2 }))
    go true = record { call = refl; start = refl; going = refl; left = refl }
    go false = record { call = refl; start = refl; going = refl; left = refl }

-- The second load found the same word: the call stands at the record, and its key was read.
module _ (z : Sizes) (k : ℕ) (s : Spot) (n : Next) (first leaf key here read_place : ℕ) (value : Halves)
    (v v1 v2 v3 : TreeView) (near : IsNear v.known k s n)
    (five : length v.known.walk ≡ 5) (first_is : first ≡ word_of n.link) (inner : leaf_bit (word_of n.link) ≡ 0) (pair : k < inf0)
    (made : MadeQuietStep confirm_step (cell_place z (slot v.known s.word).named (2 + side_number n.side)) first first
    (came_over n.word (side_number n.side) first leaf key value v.known) v v1)
    (read : MadeQuietStep read_step read_place here here v1.known v1 v2) (here_is : here ≡ (slot v1.known n.word).key) where
  passed : Passed
  passed = record { number = (slot v.known v.known.own.at).named; side = side_number n.side; word = first; leaf = leaf }

  known1 : v1.known ≡ came_over n.word (side_number n.side) first leaf key value v.known
  known1 = ap (λ (u : TreeView). u.known) made.is

  known2 : v2.known ≡ v1.known
  known2 = ap (λ (u : TreeView). u.known) read.is

  own1 : v2.known.own ≡ over_edge n.word (record {
    number = (slot v.known v.known.own.at).named;
    side = side_number n.side;
    word = first;
    leaf = leaf;
  }) first v.known.own
  own1 = ap (λ (q : TreePass). q.own) (known2 ∙ known1)

  call1 : SameCall v.known.own v2.known.own
  call1 = subst (SameCall v.known.own) (sym own1) (over_call n.word (record {
    number =
        (slot v.known v.known.own.at).named;
    side = side_number n.side;
    word = first;
    leaf = leaf;
  }) first v.known.own)

  confirm_trail2 : Trail v v1
  confirm_trail2 = step_trail confirm_step (cell_place z (slot v.known s.word).named (2 + side_number n.side)) first
      (came_over n.word (side_number n.side) first leaf key value v.known) v v1 (inl (omega arith, omega arith)) (rest_by v.known _ _) made

  read_trail : Trail v1 v2
  read_trail = step_trail read_step read_place here v1.known v1 v2 (inl (omega arith, omega arith)) (rest_by v1.known _ _) read

  both_trail : Trail v v2
  both_trail = trail_both v v1 v2 confirm_trail2 read_trail

  both_are : both_trail.steps ≡ confirms (cell_place z (slot v.known s.word).named (2 + side_number n.side)) (word_of n.link)
      ∷ reads read_place here ∷ []
  unfolding both_trail confirm_trail2 read_trail step_trail trail_one trail_both
  both_are = ap (λ (w : ℕ). confirms (cell_place z (slot v.known s.word).named (2 + side_number n.side)) w
      ∷ reads read_place here ∷ []) first_is

  there : slot v2.known n.word ≡ holding (target first) key value
  there = ap (λ (q : TreePass). slot q n.word) known2
      ∙ slot_here v.known v1.known n.word (holding (target first) key value) (ap (λ (q : TreePass). q.walk) known1)
      (let low = near.low in omega arith)

  else_ : (j : ℕ) → j ≢ n.word → slot v2.known j ≡ slot v.known j
  else_ j ne = ap (λ (q : TreePass). slot q j) known2
      ∙ slot_else v.known v1.known n.word (holding (target first) key value) (ap (λ (q : TreePass). q.walk) known1) j ne

  -- its key lies outside the bounds
  pub goes_back : (here < s.low) ⊎ (s.high ≤ here) → KeepsOnly (record { first = 5; second = 5; third = 5 }) 5 v2 v3
      → LetsAllGo v v3 × LosesThere z s n v v3
  goes_back out keeps = (
    go_after v v2 v3 call1 (lets_go (record { first = 5; second = 5; third = 5 }) v2 v3 none_of keeps),
    record {
      trail = trail_both v v2 v3 both_trail keeps.cleared.trail;
      cause = inr record {
        read = read_place;
        key = here;
        saw = front_cleared (confirms (cell_place z (slot v.known s.word).named (2 + side_number n.side)) (word_of n.link)
            ∷ reads read_place here ∷ []) v v2 v3 both_trail keeps.cleared both_are;
        outside = out;
      };
    },
  )

  abbrev spot_by : Bool → Spot
  spot_by tag = record {
    word = n.word;
    key = here;
    low = cond (nat_lt k here) s.low (here + 1);
    high = cond (nat_lt k here) here s.high;
    above = cond tag s.above (Some (record { ancestor = s.word; side = n.side; successor = n.link; top = n.word }));
  }

  narrower : (tag : Bool) → s.low ≤ here → here < s.high → width (spot_by tag) < width s
  narrower tag low high = go (nat_lt k here)
    where
      go : (b : Bool) → cond b here s.high - cond b s.low (here + 1) < s.high - s.low
      go true = omega arith
      go false = omega arith

  -- the call came there, by these steps
  abbrev Came : Spot → Type 0
  Came next = (c : ComesFurther s next v v3)
      × Confirms (cell_place z (slot v.known s.word).named (2 + side_number n.side)) (word_of n.link) next.key c.trail.steps

  spot_apart : s.word ≢ n.word
  spot_apart e = near.other (subst (IsOf (words_of s)) e (word_used s))

  comes : (tag : Bool) → s.low ≤ here → here < s.high → v2.known.own.at ≡ n.word → IsOf (words_of (spot_by tag)) n.word
      → (v2.known.own.top < 5 → IsOf (words_of (spot_by tag)) v2.known.own.top)
      → (((j : ℕ) → IsOf (words_of (spot_by tag)) j → slot v3.known j ≡ slot v2.known j) → v3.known.own ≡ v2.known.own
      → Over v3.known n.word (spot_by tag).above)
      → KeepsOnly (words_of (spot_by tag)) 5 v2 v3 → Came (spot_by tag)
  comes tag low high at used top over keeps = let own3 = keeps.own (subst (IsOf (words_of (spot_by tag)))
      (sym at) used) top in let kept = keeps.kept n.word used in (
        record {
          stands = record {
            low = near.low;
            held = ap (λ (x : WalkSlot). x.held) (kept ∙ there);
            at = ap (λ (o : TreeOwn). o.at) own3 ∙ at;
            key_is = here_is ∙ (ap (λ (q : TreePass). (slot q n.word).key) (sym known2) ∙ ap (λ (x : WalkSlot). x.key) (sym kept));
            over = over keeps.kept own3;
            empty = λ j lt out ne. keeps.emptied j lt out;
          };
          same = call_on v.known.own v2.known.own v3.known.own call1 keeps.call;
          between = (low, high);
          low_is = ap (λ (x : ℕ). cond (nat_lt x here) s.low (here + 1)) (sym near.call_is);
          high_is = ap (λ (x : ℕ). cond (nat_lt x here) here s.high) (sym near.call_is);
          narrows = narrower tag low high;
          trail = trail_both v v2 v3 both_trail keeps.cleared.trail;
        },
        record {
          read = read_place;
          front = front_cleared (confirms (cell_place z (slot v.known s.word).named (2 + side_number n.side)) (word_of n.link)
              ∷ reads read_place here ∷ []) v v2 v3 both_trail keeps.cleared both_are;
        },
      )

  -- over an untagged edge
  comes_plain : n.link.tag ≡ false → s.low ≤ here → here < s.high → KeepsOnly (words_of (spot_by false)) 5 v2 v3
      → Came (spot_by false)
  comes_plain off low high keeps = comes false low high (ap (λ (o : TreeOwn). o.at) own2) (inl refl) (λ lt. inr (inr (ap (λ
      (o : TreeOwn). o.top) own2)))
      (λ kept own3. let at_spot = kept s.word (inr (inl refl)) ∙ else_ s.word spot_apart in record {
        ancestor_low = near.stands.low;
        ancestor_held = ap (λ (x : WalkSlot). x.held) at_spot ∙ near.stands.held;
        apart = (spot_apart, spot_apart);
        side_is = near.side_is ∙ (ap (side k) (near.stands.key_is ∙ ap (λ (x : WalkSlot). x.key) (sym at_spot))
            ∙ ap (λ (x : ℕ). side x (slot v3.known s.word).key) (sym (ap (λ (o : TreeOwn). key_of o.call) (own3 ∙ own2)
            ∙ near.call_is)));
        top_low = near.low;
        top = ap (λ (o : TreeOwn). o.top) (own3 ∙ own2);
        top_held = ap (λ (x : WalkSlot). x.held) (kept n.word (inl refl) ∙ there);
        plain = plain_bits (word_of n.link) inner near.valid tag_off (near.unflagged (near.valid, inner, near.some));
        some = near.some;
        leads = ap target (sym first_is) ∙ ap (λ (x : WalkSlot). x.named) (sym (kept n.word (inl refl) ∙ there));
        last = word_of n.link;
        joined = subst (λ (cs : List Passed). Joined (word_of n.link) cs (word_of n.link)) (sym (ap (λ (o : TreeOwn). o.path)
            (own3 ∙ own2))) refl;
        ends = ap (λ (x : WalkSlot). x.named) (kept n.word (inl refl) ∙ there) ∙ ap target first_is;
      }) keeps
    where
      tag_off : tag_bit (word_of n.link) ≡ 0
      tag_off = tag_of n.link ∙ ap bit off

      plain_bits : (w : ℕ) → leaf_bit w ≡ 0 → invalid_bit w ≡ 0 → tag_bit w ≡ 0 → flag_bit w ≡ 0 → w % 16 ≡ 0
      plain_bits w a b c d = omega arith

      own2 : v2.known.own ≡ record v.known.own { at = n.word; top = n.word; path = []; flag = 2 }
      own2 = own1 ∙ ap (λ (b : Bool). cond b (record v.known.own { at = n.word; top = n.word; path = []; flag = 2 })
          (record v.known.own {
            at = n.word;
            path = v.known.own.path ++ record {
              number =
                  (slot v.known v.known.own.at).named;
              side = side_number n.side;
              word = first;
              leaf = leaf;
            } ∷ [];
            flag = 2;
          }))
          (eq-eqb (tag_bit first) 0 (ap tag_bit first_is ∙ tag_off))

  -- over a tagged one
  comes_tagged : n.link.tag ≡ true → s.low ≤ here → here < s.high → KeepsOnly (words_of (spot_by true)) 5 v2 v3
      → Came (spot_by true)
  comes_tagged on low high keeps = go s.above refl near.stands.over near.other keeps
    where
      tag_on : tag_bit (word_of n.link) ≡ 1
      tag_on = tag_of n.link ∙ ap bit on

      own2 : v2.known.own ≡ record v.known.own {
        at = n.word;
        path = v.known.own.path ++ record {
          number =
              (slot v.known v.known.own.at).named;
          side = side_number n.side;
          word = first;
          leaf = leaf;
        } ∷ [];
        flag = 2;
      }
      own2 = own1 ∙ ap (λ (b : Bool). cond b (record v.known.own { at = n.word; top = n.word; path = []; flag = 2 })
          (record v.known.own {
            at = n.word;
            path = v.known.own.path ++ record {
              number =
                  (slot v.known v.known.own.at).named;
              side = side_number n.side;
              word = first;
              leaf = leaf;
            } ∷ [];
            flag = 2;
          }))
          (ne_eqb (tag_bit first) 0 (λ none. let one = ap tag_bit first_is ∙ tag_on in omega arith))

      no_root : (slot v.known s.word).named ≡ 1 → (slot v.known s.word).key ≡ inf2 → ⊥
      no_root named key_inf = let left : side_number n.side ≡ 0 = near.side_is
          ∙ side_left k s.key (let e : s.key ≡ inf2 = near.stands.key_is ∙ key_inf in omega arith) in
          let w : word_of n.link ≡ 32 = near.below_root named left in let t : tag_bit (word_of n.link) ≡ 1 = tag_on in
          let bad : tag_bit 32 ≡ 1 = ap tag_bit (sym w) ∙ t in absurd (omega arith)

      go : (a : Option Above) → s.above ≡ a → Over v.known s.word a → (IsOf (words_by s.word a) n.word → ⊥)
          → KeepsOnly (words_of (spot_by true)) 5 v2 v3 → Came (spot_by true)
      go None is o out k = absurd (no_root o.0 o.1)
      go (Some a) is o out k = let words : words_of (spot_by true) ≡ words_by n.word (Some a) = ap (words_by n.word) is in
          comes true low high (ap (λ (w : TreeOwn). w.at) own2) (subst (λ (w : Words). IsOf w n.word) (sym words) (inl refl))
          (λ lt. subst (λ (w : Words). IsOf w v2.known.own.top) (sym words) (inr (inr (ap (λ (w : TreeOwn). w.top) own2
          ∙ o.top))))
          (λ kept own3. subst (λ (x : Option Above). Over v3.known n.word x) (sym is)
          (let anc = kept a.ancestor (subst (λ (w : Words). IsOf w a.ancestor) (sym words) (inr (inl refl)))
          ∙ else_ a.ancestor (λ e. out (inr (inl (sym e)))) in
          let top = kept a.top (subst (λ (w : Words). IsOf w a.top) (sym words) (inr (inr refl)))
          ∙ else_ a.top (λ e. out (inr (inr (sym e)))) in
          let new = kept n.word (subst (λ (w : Words). IsOf w n.word) (sym words) (inl refl)) ∙ there in record {
            ancestor_low = o.ancestor_low;
            ancestor_held = ap (λ (x : WalkSlot). x.held) anc ∙ o.ancestor_held;
            apart = (o.apart.0, λ e. out (inr (inl (sym e))));
            side_is = o.side_is ∙ (ap (side (key_of v.known.own.call)) (ap (λ (x : WalkSlot). x.key) (sym anc))
                ∙ ap (λ (w : TreeOwn). side (key_of w.call) (slot v3.known a.ancestor).key) (sym (own3 ∙ own2)));
            top_low = o.top_low;
            top = ap (λ (w : TreeOwn). w.top) (own3 ∙ own2) ∙ o.top;
            top_held = ap (λ (x : WalkSlot). x.held) top ∙ o.top_held;
            plain = o.plain;
            some = o.some;
            leads = o.leads ∙ ap (λ (x : WalkSlot). x.named) (sym top);
            last = first;
            joined = subst (λ (cs : List Passed). Joined (word_of a.successor) cs first) (sym (ap (λ (w : TreeOwn). w.path)
                (own3 ∙ own2)))
                (joined_more (word_of a.successor) o.last v.known.own.path (record {
                  number =
                      (slot v.known v.known.own.at).named;
                  side = side_number n.side;
                  word = first;
                  leaf = leaf;
                })
                o.joined (ap (λ (j : ℕ). (slot v.known j).named) near.stands.at ∙ o.ends) (ap tag_bit first_is ∙ tag_on));
            ends = ap (λ (x : WalkSlot). x.named) new;
          })) k

  pub comes_further : s.low ≤ here → here < s.high → KeepsOnly (words_of (further_spot s n k here)) 5 v2 v3
      → Came (further_spot s n k here)
  comes_further low high keeps = go n.link.tag refl keeps
    where
      go : (b : Bool) → n.link.tag ≡ b → KeepsOnly (words_of (spot_by b)) 5 v2 v3 → Came (spot_by b)
      go true is k = comes_tagged is low high k
      go false is k = comes_plain is low high k
