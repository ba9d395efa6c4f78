-- The or-step that marks a record as removed.
use Rattle.std.proofs.Common.{◌≡◌, ◌≢◌, ◌⊎◌, inl, inr, ⊎_elim, ℕ, ◌+◌, ◌*◌, ◌%◌, ◌<◌, ◌≤◌, Bool, true, false, cond, nat_lt}
use Rattle.std.proofs.Common.{List, [], ◌∷◌, ◌++◌, length, get_or, set, Some, None, sym, refl, ap, ◌∙◌, subst, arith}
use Rattle.std.proofs.Common.{length-append}
use Rattle.std.specs.Prelude.{bit_or}
use Rattle.std.proofs.Math.Bool.{false≢true}
use Rattle.std.proofs.Math.Decide.{ℕ_discrete}
use Rattle.std.proofs.lemmas.Grind.{common_steps}
use mathlib.Core.Logic.{dite}
use Rattle.atomic_table.specs.Table.{Me, Allows}
use Rattle.pp_link.specs.declared.layout.Sizes.{Sizes}
use Rattle.pp_link.specs.Links.{target, invalid_bit, flag_bit, tag_bit}
use Rattle.pp_link.specs.Places.{IsNumber, total}
use Rattle.pp_link.specs.Words.{cell_word}
use Rattle.pp_model.specs.declared.Pair.{Pair}
use Rattle.pp_model.specs.declared.Call.{Call}
use Rattle.pp_model.specs.declared.Reply.{Reply}
use Rattle.pp_model.specs.declared.Change.{Change}
use Rattle.pp_model.specs.declared.Placed.{Placed}
use Rattle.pp_model.specs.FiniteMap.{find, drop_key}
use Rattle.pp_model.specs.Calls.{reply, changes}
use Rattle.pp_model.specs.History.{contents_of, Stands, change_of}
use Rattle.pp_model.specs.MapCalls.{placed}
use Rattle.pp_model.proofs.Maps.{takes_reply, takes_after}
use Rattle.pp_model.proofs.Histories.{stands_change, sound_change, after_grown, after_all, contents_push}
use Rattle.pp_rule.specs.Lists.{IsIn}
use Rattle.pp_rule.specs.Orders.{log_of, placed_by}
use Rattle.pp_rule.specs.Views.{slot, value_of}
use Rattle.pp_rule.specs.States.{attached, Held, Leads, IsSmall}
use Rattle.pp_rule.specs.Rule.{Base}
use Rattle.pp_rule.specs.Ties.{Holds}
use Rattle.pp_rule.specs.Steps.{entry, IsAlone, MadeStep}
use Rattle.pp_rule.specs.Changes.{SameBase, Relinks}
use Rattle.pp_rule.proofs.Histories.{placed_here}
use Rattle.pp_rule.proofs.Stepping.{after_step, KeepsRule, allows}
use Rattle.pp_rule.proofs.Sources.{source_sound}
use Rattle.pp_rule.proofs.Keeping.{idle_keeps}
use Rattle.pp_rule.proofs.Relinking.{base_relinked}
use Rattle.pp_lists.specs.declared.own.Gathered.{Gathered}
use Rattle.pp_lists.specs.Walks.{Heap, heap, at_record, IsLive, Sane, Mapped, Joined, Intact, Rewired, Marked}
use Rattle.pp_lists.specs.Walks.Joined.{done, more}
use Rattle.pp_lists.specs.Lists.{ListPass, ListState, ListStep, Gathering, Walks, Lists}
use Rattle.pp_lists.specs.Turns.{ListView, mark_step, MayMark, marked, placed_at, Marks}
use Rattle.pp_lists.proofs.Walking.{finds_marked}
use Rattle.pp_model.proofs.Finding.{find_drop}
use Rattle.pp_lists.proofs.Changing.{listed_marked, mapped_marked, intact_marked}
use Rattle.pp_rule.proofs.Learnt.{never_learnt}
use Rattle.pp_lists.proofs.Heaps.{sane_of, rewired_of, place_of_live, cell_once}
use Rattle.pp_lists.proofs.Keeping.{Steadily, lists_changed, lists_alike}
use Rattle.pp_rule.proofs.Put.{put, put_here, in_first, in_one, in_left, in_right, in_either}
use Rattle.pp_lists.proofs.Leaving.{left_more, left_fewer, leaves_marked}
use Rattle.pp_lists.proofs.Telling.{or_one, or_same, change_told, place_told}

pub joined_more : (n : ℕ) (cs : List Gathered) (c : Gathered) → Joined n cs c.number → c.number ≢ 0 → flag_bit c.link ≡ 1
    → invalid_bit c.link ≡ 0
    → Joined n (cs ++ c ∷ []) (target c.link)
joined_more n [] c (done e) real flag valid = more (λ nil. real (sym e ∙ nil)) (sym e) flag valid (done refl)
joined_more n (d ∷ cs) c (more ne number f v rest) real flag valid = more ne number f v
    (joined_more (target d.link) cs c rest real flag valid)

pub intact_more : (z : Sizes) (t : Heap) (cs : List Gathered) (c : Gathered) → Intact z t cs → IsNumber z c.number
    → t.status c.number ≡ attached
    → t.link c.number ≡ c.link → Intact z t (cs ++ c ∷ [])
unfolding Intact
intact_more z t [] c i number st link = (number, st, link, tt)
intact_more z t (d ∷ cs) c i number st link = (i.0, i.1, i.2, intact_more z t cs c i.3 number st link)

pub none_intact : (z : Sizes) (t : Heap) → Intact z t []
unfolding Intact
none_intact z t = tt

pub less_from : (a b : ℕ) → nat_lt a b ≡ true → a < b
less_from a b h = grind (arith, common_steps)

abbrev pub same_base : {q q' : ListPass} → q'.number ≡ q.number → q'.sizes ≡ q.sizes → q'.retired ≡ q.retired → q'.walk ≡ q.walk
    → q'.frontier ≡ q.frontier → q'.chains ≡ q.chains → q'.scan ≡ q.scan → q'.owned ≡ q.owned → SameBase q q'
same_base number sizes retired walk frontier chains scan owned = record {
  rest = record {
    number = number;
    sizes = sizes;
    retired_are = retired;
    walk = walk;
    frontier = frontier;
    chains = chains;
    scan = scan;
  };
  owned = owned;
}

-- The step of the pass q on the record that it holds in the word j, which finds no FLAG.
module _ (z : Sizes) (words : List ℕ) (g : ListState) (q : ListPass) (j place : ℕ) (c : Call) (b : Base 1 z words g)
    (lists : Lists z words g)
    (pass : q.number < z.passes) (is : g.of q.number ≡ q) (may : MayMark z q j place c)
    (plain : flag_bit (get_or words place 0) ≡ 0) where
  abbrev key : ℕ
  key = (slot q j).key

  abbrev value : ℕ
  value = value_of (slot q j).value

  held : Held z words g.status (slot q j)
  held = subst (λ (v : ListPass). (slot v j).held ≡ true → Held z words g.status (slot v j)) is
      (b.hazards.held q.number j pass may.word) may.held

  link_is : cell_word words z (slot q j).named 2 ≡ get_or words place 0
  unfolding cell_word
  link_is = ap (λ (p : ℕ). get_or words p 0) (sym may.at)

  flag_is : flag_bit (cell_word words z (slot q j).named 2) ≡ 0
  flag_is = ap flag_bit link_is ∙ plain

  live : IsLive z (heap z words g.status) (at_record (slot q j).named)
  live = (held.number, lists.listed.marked (slot q j).named held.number held.used flag_is)

  new_is : bit_or (get_or words place 0) 1 ≡ cell_word words z (slot q j).named 2 + 1
  new_is = or_one (get_or words place 0) plain ∙ ap (λ (n : ℕ). n + 1) (sym link_is)

  untagged : tag_bit (cell_word words z (slot q j).named 2) ≡ 0
  untagged = lists.listed.untagged (slot q j).named held.number held.used

  old : Leads z g.status (cell_word words z (slot q j).named 2)
  old = b.links.linked (slot q j).named 0 held.number (omega arith) live.1

  pub valid_was : invalid_bit (get_or words place 0) ≡ 0
  valid_was = ap invalid_bit (sym link_is) ∙ old.valid

  relinks : Relinks z g place (bit_or (get_or words place 0) 1)
  relinks = let range = place_of_live z words g (at_record (slot q j).named) b.wide live in
      let w : ℕ = cell_word words z (slot q j).named 2 in
      let now = new_is in let small = old.small in let valid = old.valid in let flag = flag_is in record {
        place_is = record {
          high = (subst (λ (p : ℕ). p < total z) (sym may.at) range.0, subst (λ (p : ℕ). 17 * z.passes < p) (sym may.at) range.1);
          holder = λ n f is_n lf e. let y = cell_once z n (slot q j).named f 2 is_n.0 held.number.0 lf (omega arith)
              (e ∙ may.at) in
              ((let two = y.1 in omega arith), (let two = y.1 in omega arith), ap g.status y.0 ∙ live.1);
          unlearnt = λ r i l lr li h in_l e. let other = b.hazards.held r i lr li h in let y = other.learnt l in_l in
              let lt2 = y.0 in
              let at = cell_once z (slot (g.of r) i).named (slot q j).named (2 + l.0) 2 other.number.0 held.number.0
              (omega arith) (omega arith)
              (e ∙ may.at) in
              let there : cell_word words z (slot (g.of r) i).named (2 + l.0) ≡ w = ap
              (λ (x : ℕ). cell_word words z x (2 + l.0)) at.0
              ∙ ap (cell_word words z (slot q j).named) at.1 in let tag = untagged in
              never_learnt l.1 (cell_word words z (slot (g.of r) i).named (2 + l.0)) y.1 y.2
              (ap (λ (x : ℕ). x % 4) there ∙ (omega arith));
        };
        leads = let to : target (bit_or (get_or words place 0) 1) ≡ target w = ap target now ∙ (omega arith) in record {
          small = let lt = small in omega arith;
          valid = ap invalid_bit now ∙ (omega arith);
          to = subst (λ (x : ℕ). (x ≡ 0) ⊎ (IsNumber z x × (g.status x ≡ attached))) (sym to) old.to;
        };
      }

  abbrev pub link : ℕ
  link = bit_or (get_or words place 0) 1

  abbrev pub after_mark : ListPass
  after_mark = marked j link q

  abbrev pub change : Change
  change = change_of q.number (length (placed_by q.number g.order) + 1) c

  abbrev pub call : Placed
  call = placed c (Reply.Took value) (length (log_of g.order) + 1)

  abbrev pub mark_entry : ListStep
  mark_entry = entry mark_step place (get_or words place 0) link (change ∷ []) (call ∷ []) g.order after_mark

  pub base_marked : Base 1 z (set words place link) (after_step g after_mark g.status mark_entry)
  base_marked = base_relinked 1 z words g q after_mark place link mark_entry b pass is
      (same_base refl refl refl refl refl refl refl refl) relinks

  found : find (contents_of (log_of g.order)) key ≡ Some value
  found = subst (λ (x : ℕ). find (contents_of (log_of g.order)) x ≡ Some value) held.key
      (lists.mapped.pairs (slot q j).named held.number live.1 flag_is ∙ ap Some (ap value_of held.value))

  is_marked : Marked z (heap z words g.status) (heap z (set words place link) g.status) (slot q j).named
  is_marked = record {
    wired = subst (λ (w : ℕ). Rewired z (heap z words g.status) (heap z (set words place link) g.status)
        (at_record (slot q j).named) w) new_is
        (rewired_of z words g g.status (at_record (slot q j).named) place link b.wide live may.at);
    live = live;
    plain = flag_is;
    same = λ n. refl;
  }

  pub added_marked : Lists z (set words place link) (after_step g after_mark g.status mark_entry)
  added_marked = let t : Heap = heap z words g.status in let t' : Heap = heap z (set words place link) g.status in
      let log : List Change = log_of g.order in let m : List Pair = contents_of log in let n0 : ℕ = (slot q j).named in
      let mine : List Placed = placed_by q.number g.order in
      let sane = sane_of z words g b in
      let sane' : Sane z t' = sane_of z (set words place link) (after_step g after_mark g.status mark_entry) base_marked in
      let key_c : cell_word words z n0 0 ≡ key = held.key in
      let contents : contents_of (log ++ change ∷ []) ≡ drop_key m (cell_word words z n0 0) = contents_push log change
      ∙ (takes_after m c key value may.takes found ∙ ap (drop_key m) (sym key_c)) in
      let right : reply m c ≡ Reply.Took value = takes_reply m c key value may.takes found in
      let steady : Steadily z t t' log (log ++ change ∷ []) = record {
        grown = (let l = length-append log (change ∷ []) in omega arith);
        same = λ n lt. after_grown log (change ∷ []) n lt;
        finds = λ x a n _ seen' f. ⊎_elim inl (λ (y : (x ≡ cell_word words z n0 0) × (a ≡ None)).
            inr (ap (λ (m : List Pair). find m x) (after_all (log ++ change ∷ []) ∙ contents)
            ∙ (ap (find (drop_key m (cell_word words z n0 0))) y.0
            ∙ (find_drop 0 m (cell_word words z n0 0) lists.mapped.sorted ∙ sym y.1))))
            (finds_marked z t t' n0 x a sane sane' is_marked n seen' f);
        was = λ n _ st. st;
        intact = λ n cs x _ joined _ i. intact_marked z t t' n0 sane sane' lists.listed is_marked n cs x joined i;
      } in
      let o : Walks z t log q.number (slot q) q.own mine =
      subst (λ (v : ListPass). Walks z t log q.number (slot v) v.own mine) is (lists.each q.number pass) in
      lists_changed z words (set words place link) g q after_mark g.status mark_entry change b lists refl refl refl refl
      (sound_change log change lists.sound (ap changes right))
      (listed_marked z t t' n0 sane sane' lists.listed is_marked)
      (subst (Mapped z t') (sym contents) (mapped_marked z t t' n0 sane sane' lists.listed is_marked m lists.mapped))
      steady (λ n u. u)
      record {
        stands = subst (λ (mine : List Placed). Stands (log ++ change ∷ []) q.number mine) (sym (placed_here g.order mark_entry))
            (stands_change log q.number mine call o.stands refl right refl);
        since = λ bad. absurd (false≢true bad);
        earlier = λ bad. absurd (false≢true bad);
        stood = record { held = o.stood.held; right = λ bad. absurd (false≢true bad) };
        gathering = gathered (nat_lt q.own.first 5) refl o.gathering;
      }
      (leaves_marked z t t' (λ p. (g.of p).own.left) (λ p. (put g.of q.number after_mark p).own.left) q.number n0 pass
      (λ n _. refl)
      (λ n is_n ne. is_marked.wired.links n is_n (λ e. ne (same_record n e))) (ap flag_bit now ∙ flag_now)
      (λ r n _. left_more g.of q.number q after_mark is (λ _. Unit {0}) (λ n _ i. in_left n q.own.left (n0 ∷ []) i) r n tt)
      (subst (λ (v : ListPass). IsIn n0 v.own.left) (sym (put_here g.of q.number after_mark))
      (in_right n0 q.own.left (n0 ∷ []) (in_first n0 [])))
      (λ r n _ i ne. left_fewer g.of q.number q after_mark is (λ n. n ≢ n0) (λ n ne i. ⊎_elim (λ (was : IsIn n q.own.left). was)
      (λ (here : IsIn n (n0 ∷ [])). absurd (ne (sym (in_one n n0 here))))
      (in_either n q.own.left (n0 ∷ []) i)) r n ne i) lists.leaves)
    where
      same_record : (n : ℕ) → at_record n ≡ at_record (slot q j).named → n ≡ (slot q j).named
      same_record n e = cc

      now : cell_word (set words place link) z (slot q j).named 2 ≡ link
      now = is_marked.wired.there ∙ sym new_is

      flag_now : flag_bit link ≡ 1
      flag_now = ap flag_bit (or_one (get_or words place 0) plain) ∙ (omega arith)

      valid_now : invalid_bit link ≡ 0
      valid_now = relinks.leads.valid

      real : (slot q j).named ≢ 0
      real e = let one : 1 ≤ (slot q j).named = held.number.0 in omega arith

      last : Gathered
      last = record { number = (slot q j).named; link = link }

      intact_on : (cs : List Gathered) → Intact z (heap z words g.status) cs → (x : ℕ) → Joined (slot q q.own.first).named cs x
          → Intact z (heap z (set words place link) g.status) cs
      intact_on cs i x joined = intact_marked z (heap z words g.status) (heap z (set words place link) g.status) (slot q j).named
          (sane_of z words g b) (sane_of z (set words place link)
          (after_step g after_mark g.status mark_entry) base_marked) lists.listed is_marked
          (slot q q.own.first).named cs x joined i

      gathered : (some_before : Bool) → nat_lt q.own.first 5 ≡ some_before
          → Gathering z (heap z words g.status) (slot q) q.own.first q.own.chain
          → Gathering z (heap z (set words place link) g.status) (slot q) (cond some_before q.own.first j)
          (cond some_before (q.own.chain ++ last ∷ []) (last ∷ []))
      gathered true e o = let lt = less_from q.own.first 5 e in record {
        held = o.held;
        joined = λ _. (
          target link,
          joined_more (slot q q.own.first).named q.own.chain last
              (may.leads lt) real flag_now valid_now,
        );
        intact = λ _ st. intact_more z (heap z (set words place link) g.status) q.own.chain last
            (intact_on q.own.chain (o.intact lt st) (slot q j).named (may.leads lt)) held.number live.1 now;
      }
      gathered false e o = record {
        held = λ _. may.held;
        joined = λ _. (target link, joined_more (slot q j).named [] last (done refl) real flag_now valid_now);
        intact = λ _ st. intact_more z (heap z (set words place link) g.status) [] last
            (none_intact z (heap z (set words place link) g.status))
            held.number live.1 now;
      }

flag_cases : (n : ℕ) → flag_bit n ≢ 0 → flag_bit n ≡ 1
flag_cases n ne = omega arith

module _ (opens : Sizes → List ℕ) where
  pub marks : (z : Sizes) (slots id j place : ℕ) (call_is : Call) (me : Me Unit ListView) → IsAlone me
      → MayMark z me.0.known j place call_is
      → Allows (Holds 1 opens Lists z) slots id me place (λ n. bit_or n 1)
      (λ n m'. (m'.1 ≡ []) × Marks j place call_is n me.0 m'.0)
  marks z slots id j place call_is me lone may = let q : ListPass = me.0.known in
      allows 1 opens Lists z slots id place mark_step me (λ n. bit_or n 1) (λ n. n)
      (λ n m'. (m'.1 ≡ []) × Marks j place call_is n me.0 m'.0) lone
      (λ n _. refl) (λ n bad. absurd (false≢true bad)) (λ n bad. absurd (false≢true bad))
      (λ words g b add pass is sizes fits. let n : ℕ = get_or words place 0 in
      let small : IsSmall n = (source_sound 1 z words g q place b pass is
      (inr (j, (0, (may.word, omega arith, may.held, may.at))))).small in
      dite (ℕ_discrete (flag_bit n) 0)
      (λ plain. let c : Change = change z words g q j place call_is b add pass is may plain in
      let s : Placed = call z words g q j place call_is b add pass is may plain in
      let known : ListPass = marked j (bit_or n 1) q in let e : ListStep = entry mark_step place n (bit_or n 1) (c ∷ [])
      (s ∷ []) g.order known in record {
        known = known;
        status = g.status;
        changes = c ∷ [];
        placed = s ∷ [];
        keeps_rule = record {
          number = refl;
          sizes = sizes;
          base = base_marked z words g q j place call_is b add pass is may plain;
          added = added_marked z words g q j place call_is b add pass is may plain;
        };
        tells = λ w at made. (
          refl,
          record {
            small = small;
            lost = λ f. absurd (omega arith);
            stands = λ _. subst (λ (u : ListView). Stands (log_of u.order) u.known.number (placed_by u.known.number u.order))
                (sym at)
                ((added_marked z words g q j place call_is b add pass is may plain).each q.number pass).stands;
            done = λ _. (
              valid_was z words g q j place call_is b add pass is may plain,
              subst (λ (x : Change). MadeStep mark_step place n (bit_or n 1) (x ∷ [])
                  (placed_at call_is (Reply.Took (value_of (slot q j).value)) w ∷ []) known me.0 w)
                  (sym (change_told g.order known e w at refl call_is s refl))
                  (subst (λ (x : Placed). MadeStep mark_step place n (bit_or n 1) (c ∷ []) (x ∷ []) known me.0 w)
                  (sym (place_told g.order known e w at refl call_is (Reply.Took (value_of (slot q j).value)) c refl)) made),
            );
          },
        );
      })
      (λ ne. let flag = flag_cases n ne in let same : n ≡ bit_or n 1 = sym (or_same n flag) in record {
        known = q;
        status = g.status;
        changes = [];
        placed = [];
        keeps_rule = subst (λ (m : ℕ). KeepsRule 1 opens Lists mark_step place n m z words g q q g.status [] []) same
            (idle_keeps 1 opens Lists alike mark_step place z words g q b add pass is sizes);
        tells = λ w _ made. (
          refl,
          record {
            small = small;
            lost = λ _. made;
            done = λ f. absurd (ne f);
            stands = λ f. absurd (ne f);
          },
        );
      }))
    where
      alike : Rattle.pp_rule.specs.Laws.KeptAlike 1 Lists
      alike z words words' g g' b b' same add = lists_alike z words words' g g' b b' same add
