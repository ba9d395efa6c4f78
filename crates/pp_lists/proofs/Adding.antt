-- The exchange that publishes a record.
use Rattle.std.proofs.Common.{◌≡◌, ◌≢◌, inl, inr, ⊎_elim, ℕ, ◌+◌, ◌*◌, ◌%◌, ◌<◌, ◌≤◌, Bool, true, false, cond, eqb}
use Rattle.std.proofs.Common.{List, [], ◌∷◌, ◌++◌, length, get_or, set, Some, None, sym, refl, ap, ap₂, ◌∙◌, subst, arith}
use Rattle.std.proofs.Common.{length-append}
use Rattle.std.proofs.Common.{eq-eqb, ne_eqb}
use Rattle.std.proofs.Math.Bool.{false≢true}
use Rattle.std.proofs.Math.Decide.{ℕ_discrete}
use mathlib.Core.Logic.{dite}
use mathlib.Core.Option.{some}
use lib.ListN.{get_elem?}
use prog.Atomic.{either}
use Rattle.atomic_table.specs.Table.{Me, Allows}
use Rattle.pp_link.specs.declared.layout.Sizes.{Sizes}
use Rattle.pp_link.specs.Links.{target, invalid_bit, flag_bit, tag_bit}
use Rattle.pp_link.specs.Places.{IsNumber, total, cell_place}
use Rattle.pp_link.specs.Words.{head_word, cell_word}
use Rattle.pp_model.specs.declared.Pair.{Pair}
use Rattle.pp_model.specs.declared.Call.TheVariants.{Insert}
use Rattle.pp_model.specs.declared.Reply.{Reply}
use Rattle.pp_model.specs.declared.Change.{Change}
use Rattle.pp_model.specs.declared.Placed.{Placed}
use Rattle.pp_model.specs.FiniteMap.{find, put as put_pair}
use Rattle.pp_model.specs.Calls.{reply, reply_at, map_after, map_after_at, changes}
use Rattle.pp_model.specs.History.{contents_of, Stands, change_of}
use Rattle.pp_model.specs.MapCalls.{placed}
use Rattle.pp_model.proofs.Histories.{stands_change, sound_change, after_grown, after_all, contents_push}
use Rattle.pp_rule.specs.declared.views.PrivateRecord.{PrivateRecord}
use Rattle.pp_rule.specs.Lists.{IsIn}
use Rattle.pp_rule.specs.Orders.{only_loads, log_of, placed_by, goes_aside, missed_step}
use Rattle.pp_rule.specs.Views.{slot}
use Rattle.pp_rule.specs.States.{RecordState, attached, owned, IsUsed, IsFrozen, Keeps, Held, Leads}
use Rattle.pp_rule.specs.Rule.{Base, Reads}
use Rattle.pp_rule.specs.Ties.{Holds}
use Rattle.pp_rule.specs.Steps.{entry, IsAlone, MadeStep}
use Rattle.pp_rule.specs.Changes.{Publishes}
use Rattle.pp_rule.specs.Laws.{KeptAlike}
use Rattle.pp_rule.proofs.Put.{put, put_here, put_else}
use Rattle.pp_rule.proofs.Histories.{placed_here}
use Rattle.pp_rule.proofs.Stepping.{after_step, Plays, allows_by}
use Rattle.pp_rule.proofs.Keeping.{idle_keeps}
use Rattle.pp_rule.proofs.Publishing.{base_published}
use Rattle.pp_lists.specs.Walks.{Heap, heap, Source, at_head, at_record, word_at, source_place, IsLive, bucket, bucket_at}
use Rattle.pp_lists.specs.Walks.{IsBelow}
use Rattle.pp_lists.specs.Walks.{IsSeen, Sane, Mapped, Between}
use Rattle.pp_lists.specs.Lists.{ListPass, ListState, ListStep, Walks, Lists}
use Rattle.pp_lists.specs.Turns.{ListView, publish_step, IsBefore, MayPublish, published, placed_at, Published}
use Rattle.pp_lists.proofs.Walking.{finds_published}
use Rattle.pp_model.proofs.Finding.{find_put}
use Rattle.pp_lists.proofs.Changing.{listed_published, mapped_published, intact_published, none_yet}
use Rattle.pp_rule.proofs.Learnt.{value_by, never_learnt}
use Rattle.pp_lists.proofs.Heaps.{sane_of, rewired_of, place_of_live, cell_once}
use Rattle.pp_rule.proofs.OwnSteps.{any_word}
use Rattle.pp_lists.proofs.Keeping.{Steadily, lists_changed, lists_alike, gathering_on}
use Rattle.pp_lists.proofs.Leaving.{in_without, without_in, rewired_flag, left_more, left_fewer, leaves_published}
use Rattle.pp_lists.proofs.Telling.{change_told, place_told}

-- an insert of a key that isn't there
insert_reply : (m : List Pair) (k v : ℕ) → find m k ≡ None → reply m (Insert k v) ≡ Reply.Added
insert_reply m k v e = ap (reply_at (Insert k v)) e

insert_leaves : (m : List Pair) (k v : ℕ) → find m k ≡ None → map_after m (Insert k v) ≡ put_pair m k v
insert_leaves m k v e = ap (map_after_at m (Insert k v)) e

-- The step of the pass q with its record d, which finds the expected word.
module _ (z : Sizes) (words : List ℕ) (g : ListState) (q : ListPass) (i : ℕ) (d : PrivateRecord) (place k v first new : ℕ)
    (b : Base 1 z words g)
    (lists : Lists z words g) (pass : q.number < z.passes) (is : g.of q.number ≡ q) (may : MayPublish z q i d place k v first new)
    (hit : get_or words place 0 ≡ first) where
  word_is : word_at (heap z words g.status) may.source ≡ first
  unfolding cell_word head_word
  word_is = go may.source may.at
    where
      go : (s : Source) → place ≡ source_place z s → word_at (heap z words g.status) s ≡ first
      go (at_head h) at = ap (λ (k : ℕ). get_or words k 0) (sym at) ∙ hit
      go (at_record n) at = ap (λ (k : ℕ). get_or words k 0) (sym at) ∙ hit

  held : (j : ℕ) → j < 5 → (slot q j).held ≡ true → Held z words g.status (slot q j)
  held j lt h = subst (λ (v : ListPass). (slot v j).held ≡ true → Held z words g.status (slot v j)) is
      (b.hazards.held q.number j pass lt) h

  stands_at : (IsLive z (heap z words g.status) may.source) × IsBelow (heap z words g.status) may.source k
      × (bucket z.heads k ≡ bucket_at z (heap z words g.status) may.source)
  stands_at = go may.source may.before word_is
    where
      go : (s : Source) → IsBefore z q k s → word_at (heap z words g.status) s ≡ first
          → (IsLive z (heap z words g.status) s) × IsBelow (heap z words g.status) s k
          × (bucket z.heads k ≡ bucket_at z (heap z words g.status) s)
      go (at_head h) y e = (y.0, tt, sym y.1)
      go (at_record n) y e = let h = held y.0 y.1 y.2 in let number : IsNumber z n = subst (IsNumber z) y.3 h.number in
          let used : IsUsed (g.status n) = subst (λ (k : ℕ). IsUsed (g.status k)) y.3 h.used in
          let key : cell_word words z n 0 ≡ (slot q y.0).key = ap (λ (x : ℕ). cell_word words z x 0) (sym y.3) ∙ h.key in
          let plain : flag_bit (cell_word words z n 2) ≡ 0 = ap flag_bit e ∙ (let p = may.plain in omega arith) in (
            (number, lists.listed.marked n number used plain),
            (let lt = y.4 in omega arith),
            sym y.5
                ∙ ap (bucket z.heads) (sym key),
          )

  live : IsLive z (heap z words g.status) may.source
  live = stands_at.0

  there : get_elem? (g.of q.number).owned i ≡ some d
  there = ap (λ (v : ListPass). get_elem? v.owned i) is ∙ may.owned_at

  own : IsNumber z d.number × (g.status d.number ≡ owned q.number)
  own = b.numbers.owned_to q.number d pass (i, there)

  reads : Reads z words d
  reads = b.privates.reads q.number d pass (i, there)

  leads : Leads z g.status first
  leads = subst (Leads z g.status) word_is (go may.source live)
    where
      go : (s : Source) → IsLive z (heap z words g.status) s → Leads z g.status (word_at (heap z words g.status) s)
      go (at_head h) lv = b.links.heads h lv
      go (at_record n) lv = b.links.linked n 0 lv.0 (omega arith) lv.1

  publishes : Publishes 1 z words g d.number place new
  publishes = let range = place_of_live z words g may.source b.wide live in let at = may.at in record {
    place_is = record {
      high = (subst (λ (k : ℕ). k < total z) (sym at) range.0, subst (λ (k : ℕ). 17 * z.passes < k) (sym at) range.1);
      holder = λ n f is_n lf e. holder_of may.source live n f is_n lf (e ∙ at);
      unlearnt = λ r i l lr li h i_l e. let o = b.hazards.held r i lr li h in let y = o.learnt l i_l in
          not_learnt may.source live (slot (g.of r) i).named l.0 l.1 o.number y.0 (e ∙ at) y.1 y.2 word_is;
    };
    small = may.new_small;
    valid = (let p = may.new_plain in omega arith);
    to = may.new_to;
    leads = λ side lt. let zero_side : 0 ≡ side = omega arith in
        subst (λ (s : ℕ). Leads z g.status (cell_word words z d.number (2 + s))) zero_side
        (subst (Leads z g.status) (sym (reads.left ∙ may.left)) leads);
  }
    where
      holder_of : (s : Source) → IsLive z (heap z words g.status) s → (n f : ℕ) → IsNumber z n → f < 5
          → cell_place z n f ≡ source_place z s
          → (2 ≤ f) × (f < 4) × (g.status n ≡ attached)
      holder_of (at_head h) lv n f is_n lf e = absurd (let one : 1 ≤ n = is_n.0 in let lt = lv in omega arith)
      holder_of (at_record m) lv n f is_n lf e = let y = cell_once z n m f 2 is_n.0 lv.0.0 lf (omega arith) e in
          ((let two = y.1 in omega arith), (let two = y.1 in omega arith), ap g.status y.0 ∙ lv.1)

      not_learnt : (s : Source) → IsLive z (heap z words g.status) s → (n side word : ℕ) → IsNumber z n → side < 2
          → cell_place z n (2 + side) ≡ source_place z s → Keeps word (cell_word words z n (2 + side)) → IsFrozen word
          → word_at (heap z words g.status) s ≡ first → ⊥
      not_learnt (at_head h) lv n side word is_n lt e stays frozen w = let one : 1 ≤ n = is_n.0 in let lt' = lv in
          absurd (omega arith)
      not_learnt (at_record m) lv n side word is_n lt e stays frozen w =
          let y = cell_once z n m (2 + side) 2 is_n.0 lv.0.0 (omega arith) (omega arith) e in
          let now : cell_word words z n (2 + side) ≡ first = ap (λ (k : ℕ). cell_word words z k (2 + side)) y.0
          ∙ (ap (cell_word words z m) y.1 ∙ w) in let plain = may.plain in
          never_learnt word (cell_word words z n (2 + side)) stays frozen (omega arith)

  abbrev pub after_publish : ListPass
  after_publish = published i d.number q

  abbrev pub change : Change
  change = change_of q.number (length (placed_by q.number g.order) + 1) (Insert k v)

  abbrev pub call : Placed
  call = placed (Insert k v) Reply.Added (length (log_of g.order) + 1)

  abbrev pub status_after : ℕ → RecordState
  status_after = put g.status d.number attached

  abbrev pub publish_entry : ListStep
  publish_entry = entry publish_step place (get_or words place 0) new (change ∷ []) (call ∷ []) g.order after_publish

  pub base_added : Base 1 z (set words place new) (after_step g after_publish status_after publish_entry)
  base_added = base_published 1 z words g q after_publish i d place new publish_entry b pass is may.owned_at
      record {
        rest = record {
          number = refl;
          sizes = refl;
          retired_are = refl;
          walk = refl;
          frontier = refl;
          chains = refl;
          scan = refl;
        };
        owned = refl;
      } publishes

  key_d : cell_word words z d.number 0 ≡ k
  key_d = reads.key ∙ may.key

  value_d : (heap z words g.status).value d.number ≡ v
  value_d = ap₂ value_by reads.value reads.high ∙ may.value

  link_d : cell_word words z d.number 2 ≡ first
  link_d = reads.left ∙ may.left

  gap : target first ≢ 0 → k < cell_word words z (target first) 0
  gap some_end = ⊎_elim (λ (e : target first ≡ 0). absurd (some_end e))
      (λ (y : (j : ℕ) × (j < 5) × ((slot q j).held ≡ true) × ((slot q j).named ≡ target first) × (k < (slot q j).key)).
      let h = held y.0 y.1 y.2 in
      let key : cell_word words z (target first) 0 ≡ (slot q y.0).key = ap (λ (x : ℕ). cell_word words z x 0) (sym y.3) ∙ h.key in
      let lt = y.4 in omega arith)
      may.end

  between : Between z (heap z words g.status) (heap z (set words place new) status_after) may.source new d.number
  between = let p = may.plain in let np = may.new_plain in record {
    wired = rewired_of z words g status_after may.source place new b.wide live may.at;
    live = live;
    plain = ap flag_bit word_is ∙ (omega arith);
    to = may.new_to;
    new_plain = omega arith;
    new_untagged = omega arith;
    new_valid = omega arith;
    new_bare = np;
    number = own.0;
    unused = λ u. subst IsUsed own.1 u;
    attached_now = put_here g.status d.number attached;
    others = λ n ne. put_else g.status d.number attached n ne;
    valid_c = ap invalid_bit link_d ∙ (omega arith);
    plain_c = ap flag_bit link_d ∙ (omega arith);
    untagged_c = ap tag_bit link_d ∙ (omega arith);
    bare_c = ap (λ (w : ℕ). w % 16) link_d ∙ p;
    to_c = ap target (link_d ∙ sym word_is);
    home = ap (bucket z.heads) key_d ∙ stands_at.2;
    above = subst (IsBelow (heap z words g.status) may.source) (sym key_d) stands_at.1;
    gap = λ some_end. let e = gap (λ nil. some_end (ap target word_is ∙ nil)) in
        let to : cell_word words z (target (word_at (heap z words g.status) may.source)) 0 ≡ cell_word words z (target first) 0 =
        ap (λ (w : ℕ). cell_word words z (target w) 0) word_is in let kd = key_d in omega arith;
  }

  pub lists_added : Lists z (set words place new) (after_step g after_publish status_after publish_entry)
  lists_added = let t : Heap = heap z words g.status in let t' : Heap = heap z (set words place new) status_after in
      let log : List Change = log_of g.order in let m : List Pair = contents_of log in let c : ℕ = d.number in
      let mine : List Placed = placed_by q.number g.order in
      let sane = sane_of z words g b in
      let sane' : Sane z t' = sane_of z (set words place new)
      (after_step g after_publish status_after publish_entry) base_added in
      let none : find m k ≡ None = ap (find m) (sym key_d)
      ∙ none_yet z t t' may.source new c sane sane' lists.listed between m lists.mapped in
      let contents : contents_of (log ++ change ∷ []) ≡ put_pair m (cell_word words z c 0) (t.value c) = contents_push log change
      ∙ (insert_leaves m k v none ∙ (ap (λ (x : ℕ). put_pair m x v) (sym key_d)
      ∙ ap (put_pair m (cell_word words z c 0)) (sym value_d))) in
      let right : reply m (Insert k v) ≡ Reply.Added = insert_reply m k v none in
      let used : (n : ℕ) → IsUsed (g.status n) → IsUsed (status_after n) = λ n u. subst IsUsed
      (sym (put_else g.status c attached n (λ same. subst IsUsed (ap g.status same ∙ own.1) u))) u in
      let real_ne : (n : ℕ) → IsSeen z t n → n ≢ c = λ n seen same. ⊎_elim
      (λ (nil : n ≡ 0). let one : 1 ≤ d.number = own.0.0 in let s = same in omega arith)
      (λ (y : IsNumber z n × IsUsed (g.status n)). subst IsUsed (ap g.status same ∙ own.1) y.1) seen in
      let steady : Steadily z t t' log (log ++ change ∷ []) = record {
        grown = (let l = length-append log (change ∷ []) in omega arith);
        same = λ n lt. after_grown log (change ∷ []) n lt;
        finds = λ x a n seen seen' f. ⊎_elim inl (λ (y : (x ≡ cell_word words z c 0) × (a ≡ Some (t.value c))).
            inr (ap (λ (m : List Pair). find m x) (after_all (log ++ change ∷ []) ∙ contents)
            ∙ (ap (find (put_pair m (cell_word words z c 0) (t.value c))) y.0
            ∙ (find_put m (cell_word words z c 0) (t.value c) (ap (find m) key_d ∙ none) ∙ sym y.1))))
            (finds_published z t t' may.source new c x a sane sane' between n (real_ne n seen) seen' f);
        was = λ n seen st. sym (put_else g.status c attached n (real_ne n seen)) ∙ st;
        intact = λ n cs x _ joined _ i. intact_published z t t' may.source new c sane sane' lists.listed between n cs x joined i;
      } in
      let o : Walks z t log q.number (slot q) q.own mine =
      subst (λ (v : ListPass). Walks z t log q.number (slot v) v.own mine) is (lists.each q.number pass) in
      lists_changed z words (set words place new) g q after_publish status_after publish_entry change b lists refl refl refl refl
      (sound_change log change lists.sound (ap changes right))
      (listed_published z t t' may.source new c sane sane' lists.listed between)
      (subst (Mapped z t') (sym contents)
      (mapped_published z t t' may.source new c sane sane' lists.listed between m lists.mapped))
      steady used
      record {
        stands = subst (λ (mine : List Placed). Stands (log ++ change ∷ []) q.number mine)
            (sym (placed_here g.order publish_entry))
            (stands_change log q.number mine call o.stands refl right refl);
        since = λ bad. absurd (false≢true bad);
        earlier = λ bad. absurd (false≢true bad);
        stood = record { held = o.stood.held; right = λ bad. absurd (false≢true bad) };
        gathering = gathering_on z t t' log (log ++ change ∷ []) steady q.number any_word (slot q) (slot q)
            record { held = λ i _ _ h. h; named = λ i _ _ _. refl } (λ i li h. let y = held i li h in inr (y.number, y.used))
            (λ i li h. let y = held i li h in inr (y.number, used (slot q i).named y.used)) q.own.first q.own.chain
            (λ _. tt) o.gathering;
      }
      (leaves_published z t t' (λ p. (g.of p).own.left) (λ p. (put g.of q.number after_publish p).own.left) q.number c pass
      (λ n _ ne. between.others n ne)
      (λ n is_n st. rewired_flag z t t' may.source new between.wired between.plain between.new_plain n is_n)
      (ap flag_bit (between.wired.links c own.0 (λ e. c_apart may.source live e)) ∙ between.plain_c)
      (λ r n _ i ne. left_more g.of q.number q after_publish is (λ n. n ≢ c) (λ n ne i. in_without c n q.own.left i ne) r n ne i)
      (λ r n _ i. left_fewer g.of q.number q after_publish is (λ _. Unit {0}) (λ n _ i. (without_in c n q.own.left i).0) r n tt i)
      (λ i. (without_in c c q.own.left (subst (λ (v : ListPass). IsIn c v.own.left)
      (put_here g.of q.number after_publish) i)).1 refl)
      lists.leaves)
    where
      -- what is published isn't where the link stands
      c_apart : (s : Source) → IsLive z (heap z words g.status) s → at_record d.number ≡ s → ⊥
      c_apart (at_head h) lv e = cc
      c_apart (at_record m) lv e = let same : d.number ≡ m = record_is m e in
          subst IsUsed (ap g.status (sym same) ∙ own.1) (subst IsUsed (sym lv.1) tt)
        where
          record_is : (m : ℕ) → at_record d.number ≡ at_record m → d.number ≡ m
          record_is m e = cc

module _ (opens : Sizes → List ℕ) where
  alike : KeptAlike 1 Lists
  alike z words words' g g' b b' same add = lists_alike z words words' g g' b b' same add

  -- an exchange that misses leaves what it found
  missed_keeps : (hit : Bool) (n new : ℕ) → only_loads (cond hit publish_step missed_step) ≡ true → either hit new n ≡ n
  missed_keeps true n new bad = absurd (false≢true bad)
  missed_keeps false n new is = refl

  stores_none : (hit : Bool) → goes_aside (cond hit publish_step missed_step) ≡ false
  stores_none true = refl
  stores_none false = refl

  pub publishes_one : (z : Sizes) (slots id i : ℕ) (d : PrivateRecord) (place k v first new : ℕ) (me : Me Unit ListView)
      → IsAlone me
      → MayPublish z me.0.known i d place k v first new
      → Allows (Holds 1 opens Lists z) slots id me place (λ n. either (eqb n first) new n)
      (λ n m'. (m'.1 ≡ []) × Published i d.number place k v first new n me.0 m'.0)
  publishes_one z slots id i d place k v first new me lone may = let q : ListPass = me.0.known in
      let then : ℕ → Me Unit ListView → Type 0 = λ n m'. (m'.1 ≡ []) × Published i d.number place k v first new n me.0 m'.0 in
      allows_by 1 opens Lists z slots id place (λ n. cond (eqb n first) publish_step missed_step) me
      (λ n. either (eqb n first) new n) (λ n. n) then
      lone (λ n _. refl) (λ n bad. absurd (false≢true (sym (stores_none (eqb n first)) ∙ bad)))
      (λ n. missed_keeps (eqb n first) n new)
      (λ words g b add pass is sizes fits. let n : ℕ = get_or words place 0 in dite (ℕ_discrete n first)
      (λ e. subst (λ (hit : Bool). Plays 1 opens Lists (cond hit publish_step missed_step) place n
      (either hit new n) z words g me.0 (then n))
      (sym (eq-eqb n first e))
      (let c : Change = change z words g q i d place k v first new b add pass is may e in
      let s : Placed = call z words g q i d place k v first new b add pass is may e in
      let known : ListPass = published i d.number q in
      let x : ListStep = entry publish_step place n new (c ∷ []) (s ∷ []) g.order known in record {
        known = known;
        status = put g.status d.number attached;
        changes = c ∷ [];
        placed = s ∷ [];
        keeps_rule = record {
          number = refl;
          sizes = sizes;
          base = base_added z words g q i d place k v first new b add pass is may e;
          added = lists_added z words g q i d place k v first new b add pass is may e;
        };
        tells = λ w at made. (
          refl,
          record {
            same = λ _. subst (λ (c : Change). MadeStep publish_step place n new (c ∷ [])
                (placed_at (Insert k v) Reply.Added w ∷ []) known me.0 w)
                (sym (change_told g.order known x w at refl (Insert k v) s refl))
                (subst (λ (s : Placed). MadeStep publish_step place n new (c ∷ []) (s ∷ []) known me.0 w)
                (sym (place_told g.order known x w at refl (Insert k v) Reply.Added c refl)) made);
            other = λ ne. absurd (ne e);
            stands = λ _. subst (λ (u : ListView). Stands (log_of u.order) u.known.number (placed_by u.known.number u.order))
                (sym at)
                ((lists_added z words g q i d place k v first new b add pass is may e).each q.number pass).stands;
          },
        );
      }))
      (λ ne. subst (λ (hit : Bool). Plays 1 opens Lists (cond hit publish_step missed_step) place n
      (either hit new n) z words g me.0 (then n))
      (sym (ne_eqb n first ne)) record {
        known = q;
        status = g.status;
        changes = [];
        placed = [];
        keeps_rule = idle_keeps 1 opens Lists alike missed_step place z words g q b add pass is sizes;
        tells = λ w at made. (refl, record { same = λ e. absurd (ne e); other = λ _. made; stands = λ e. absurd (ne e) });
      }))
