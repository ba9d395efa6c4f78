-- What a step of any kind has to show for the passes that go on as they were, and that each kind shows it.
use Rattle.std.proofs.Common.{◌≡◌, ◌⊎◌, ⊎_elim, ℕ, ◌*◌, ◌<◌, true, List, [], ◌∷◌}
use Rattle.std.proofs.Common.{sym, ap, ◌∙◌, subst, arith}
use Rattle.pp_link.specs.declared.layout.Sizes.{Sizes}
use Rattle.pp_link.specs.Links.{target, flag_bit, tag_bit}
use Rattle.pp_link.specs.Places.{IsNumber}
use Rattle.pp_model.specs.declared.Change.{Change}
use Rattle.pp_model.specs.Calls.{key_of}
use Rattle.pp_model.specs.History.{contents_of}
use Rattle.pp_rule.specs.Lists.{IsIn}
use Rattle.pp_rule.specs.declared.views.WalkSlot.{WalkSlot}
use Rattle.pp_trees.specs.declared.own.TreeOwn.{TreeOwn}
use Rattle.pp_rule.specs.States.{attached, IsUsed}
use Rattle.pp_rule.specs.Looks.{StillHeld}
use Rattle.pp_rule.proofs.Put.{in_nil, in_first, in_later, in_cases}
use Rattle.pp_trees.specs.Trees.{Heap, across, Internal, inf0}
use Rattle.pp_trees.specs.Trees.{Sane, SearchTree, Mapped, Standing, Rewired, Spliced, Published, Marked, Fewer}
use Rattle.pp_trees.specs.TaggedPaths.{Passed, Joined, Intact}
use Rattle.pp_trees.specs.Searches.{Seated}
use Rattle.pp_trees.proofs.Walking.{across_low, is_used}
use Rattle.pp_trees.proofs.Standing.{Onward, Grown, standing_on}
use Rattle.pp_trees.proofs.Splicing.{is_there, onward_spliced}
use Rattle.pp_trees.proofs.Marking.{onward_marked}
use Rattle.pp_trees.proofs.Publishing.{onward_published}
use Rattle.pp_trees.proofs.Fewer.{onward_fewer}
use Rattle.pp_trees.proofs.Cutting.{tagged_in, passed_internal, passed_flag}

-- The tagged paths and the flags that a pass knows stay too.
pub record Lasting (z : Sizes) (t t' : Heap) : Type 0 where
  pub onward : Onward z t t'
  pub paths : (first last : ℕ) (cs : List Passed) → Joined first cs last → Intact z t cs → t'.state (target first) ≡ attached
      → Intact z t' cs
  pub flags : (n s : ℕ) → IsNumber z n → IsUsed (t.state n) → IsUsed (t'.state n) → s < 2 → flag_bit (t.link n s) ≡ 1
      → (flag_bit (t'.link n s) ≡ 1) × (target (t'.link n s) ≡ target (t.link n s))

-- what stands in the words of a pass is in use, before and after
pub record AllUsed (z : Sizes) (t t' : Heap) (slots : ℕ → WalkSlot) (j : ℕ) : Type 0 where
  pub number : IsNumber z (slots j).named
  pub used : IsUsed (t.state (slots j).named)
  pub used' : IsUsed (t'.state (slots j).named)

-- the pass stands where it stood, or nowhere
pub record StandsStill (slots slots' : ℕ → WalkSlot) (own own' : TreeOwn) : Type 0 where
  pub call : own'.call ≡ own.call
  pub start : own'.start ≡ own.start
  pub flag : own'.flag ≡ own.flag
  pub beside : own'.beside ≡ own.beside
  pub at : own'.at < 5 → (own'.at ≡ own.at) × StillHeld (slots own.at) (slots' own'.at)
  pub top : own'.top < 5 → (own'.top ≡ own.top) × (own'.path ≡ own.path) × StillHeld (slots own.top) (slots' own'.top)

module _ (z : Sizes) (t t' : Heap) (log log' : List Change) (sane : Sane z t) (sane' : Sane z t') (tree' : SearchTree z t')
    (d : Lasting z t t')
    (grown : Grown log log') (map : Mapped z t' (contents_of log')) where
  pub seated_on : (slots slots' : ℕ → WalkSlot) (own own' : TreeOwn) → ((j : ℕ) → j < 5 → (slots j).held ≡ true
      → StillHeld (slots j) (slots' j) → AllUsed z t t' slots j) → StandsStill slots slots' own own'
      → Seated z t log slots own → Seated z t' log' slots' own'
  seated_on slots slots' own own' in_use s a = record {
    held = λ lt. (s.at lt).1.held;
    since = λ lt. let y = s.at lt in let was = a.since (subst (λ (x : ℕ). x < 5) y.0 lt) in let e = s.start in
        let more = grown.longer in omega arith;
    pair = λ lt. let y = s.at lt in subst (λ c. key_of c < inf0) (sym s.call) (a.pair (subst (λ (x : ℕ). x < 5) y.0 lt));
    standing = λ lt. let y = s.at lt in let low : own.at < 5 = subst (λ (x : ℕ). x < 5) y.0 lt in
        let u = in_use own.at low (a.held low) (subst (λ (x : ℕ). StillHeld (slots own.at) (slots' x)) y.0 y.1) in
        subst (λ (n : ℕ). Standing t' log' own'.start (key_of own'.call) n) (sym y.1.named)
        (subst (λ (b : ℕ). Standing t' log' b (key_of own'.call) (slots own.at).named) (sym s.start)
        (subst (λ c. Standing t' log' own.start (key_of c) (slots own.at).named) (sym s.call)
        (standing_on z t t' (key_of own.call) sane sane' tree' d.onward log log' own.start (slots own.at).named grown map
        (a.pair low) (a.since low) u.number u.used u.used' (a.standing low))));
    flag = λ lt two. let y = s.at lt in let low : own.at < 5 = subst (λ (x : ℕ). x < 5) y.0 lt in
        let u = in_use own.at low (a.held low) (subst (λ (x : ℕ). StillHeld (slots own.at) (slots' x)) y.0 y.1) in
        let two' : own.flag < 2 = subst (λ (x : ℕ). x < 2) s.flag two in
        subst (λ (n : ℕ). flag_bit (t'.link n own'.flag) ≡ 1) (sym y.1.named) (subst (λ (r : ℕ). flag_bit (t'.link
        (slots own.at).named r) ≡ 1) (sym s.flag)
        (d.flags (slots own.at).named own.flag u.number u.used u.used' two' (a.flag low two')).0);
    beside = λ lt two. let y = s.at lt in let low : own.at < 5 = subst (λ (x : ℕ). x < 5) y.0 lt in
        let u = in_use own.at low (a.held low) (subst (λ (x : ℕ). StillHeld (slots own.at) (slots' x)) y.0 y.1) in
        let two' : own.flag < 2 = subst (λ (x : ℕ). x < 2) s.flag two in
        ap (λ (n : ℕ). target (t'.link n own'.flag)) y.1.named ∙ (ap (λ (r : ℕ). target (t'.link (slots own.at).named r)) s.flag
        ∙ ((d.flags (slots own.at).named own.flag u.number u.used u.used' two' (a.flag low two')).1
        ∙ (a.beside low two' ∙ sym s.beside)));
    top_held = λ lt. (s.top lt).2.held;
    joined = λ lt. let y = s.top lt in let low : own.top < 5 = subst (λ (x : ℕ). x < 5) y.0 lt in let j = a.joined low in
        (j.0, (j.1.0, (j.1.1.0 ∙ sym y.2.named, subst (λ (cs : List Passed). Joined j.0 cs j.1.0) (sym y.1) j.1.1.1)));
    intact = λ lt on. let y = s.top lt in let low : own.top < 5 = subst (λ (x : ℕ). x < 5) y.0 lt in let j = a.joined low in
        let u = in_use own.top low (a.top_held low) (subst (λ (x : ℕ). StillHeld (slots own.top) (slots' x)) y.0 y.2) in
        let on' : t'.state (slots own.top).named ≡ attached = subst (λ (n : ℕ). t'.state n ≡ attached) y.2.named on in
        subst (Intact z t') (sym y.1) (d.paths j.0 j.1.0 own.path j.1.1.1 (a.intact low (d.onward.was
        (slots own.top).named u.used on'))
        (subst (λ (n : ℕ). t'.state n ≡ attached) (sym j.1.1.0) on'));
  }

module _ (z : Sizes) (t t' : Heap) (sane : Sane z t) (tree : SearchTree z t) where
  -- where the edge (p, s) changed that was neither flagged nor tagged, a path that stays attached is as it was
  path_rewired : (p s w : ℕ) → Rewired z t t' p s w → flag_bit (t.link p s) ≡ 0 → tag_bit (t.link p s) ≡ 0
      → (first last : ℕ) (cs : List Passed)
      → Joined first cs last → Intact z t cs → ((c : Passed) → IsIn c cs → t'.state c.number ≡ attached) → Intact z t' cs
  path_rewired p s w wired plain free first last cs j all on c i = let h = all c i in
      let tag : tag_bit c.word ≡ 1 = tagged_in first last cs c j i in
      let flag = passed_flag z t sane tree cs last all first j c i in
      record {
        number = h.number;
        on = on c i;
        low = h.low;
        edge = wired.links c.number c.side h.number h.low (λ at. let bad : tag_bit (t.link p s) ≡ 1 = sym (ap (λ
            (x : ℕ). tag_bit (t.link x c.side)) at.0 ∙ ap (λ (x : ℕ). tag_bit (t.link p x)) at.1)
            ∙ (ap tag_bit h.edge ∙ tag) in omega arith) ∙ h.edge;
        beside = ap target (wired.links c.number (across c.side) h.number (across_low c.side)
            (λ at. let bad : flag_bit (t.link p s) ≡ 1 = sym (ap (λ (x : ℕ). flag_bit (t.link x (across c.side))) at.0
            ∙ ap (λ (x : ℕ). flag_bit (t.link p x)) at.1) ∙ flag in omega arith)) ∙ h.beside;
      }

  flag_rewired : (p s w : ℕ) → Rewired z t t' p s w
      → (flag_bit (t.link p s) ≡ 1 → (flag_bit w ≡ 1) × (target w ≡ target (t.link p s))) → (n r : ℕ) → IsNumber z n → r < 2
      → flag_bit (t.link n r) ≡ 1 → (flag_bit (t'.link n r) ≡ 1) × (target (t'.link n r) ≡ target (t.link n r))
  flag_rewired p s w wired still n r number lt flag = ⊎_elim
      (λ (at : (n ≡ p) × (r ≡ s)). let new : t'.link n r ≡ w = ap (λ (x : ℕ). t'.link x r) at.0 ∙ (ap (t'.link p) at.1
      ∙ wired.there) in
      let old : t.link n r ≡ t.link p s = ap (λ (x : ℕ). t.link x r) at.0 ∙ ap (t.link p) at.1 in
      let on = still (sym (ap flag_bit old) ∙ flag) in
      (ap flag_bit new ∙ on.0, ap target new ∙ (on.1 ∙ sym (ap target old))))
      (λ (ne : (n ≡ p) × (r ≡ s) → ⊥). let same = wired.links n r number lt ne in (ap flag_bit same ∙ flag, ap target same))
      (is_there n r p s)

  pub lasting_published : (p s k c m : ℕ) → Published z t t' p s k c m → Lasting z t t'
  lasting_published p s k c m d = record {
    onward = onward_published z t t' p s k c m sane tree d;
    paths = λ first last cs j all on. path_rewired p s (16 * c) d.wired d.plain d.free first last cs j all
        (λ b i. let h = all b i in let used = is_used (t.state b.number) h.on in
        d.others b.number (λ e. d.unused.0 (subst (λ (x : ℕ). IsUsed (t.state x)) e used)) (λ e. d.unused.1 (subst (λ
        (x : ℕ). IsUsed (t.state x)) e used)) ∙ h.on);
    flags = λ n r number used used' lt flag. flag_rewired p s (16 * c) d.wired (λ on. let off = d.plain in
        absurd (omega arith)) n r number lt flag;
  }

  pub lasting_marked : (p s w : ℕ) → Marked z t t' p s w → (flag_bit w ≡ flag_bit (t.link p s)) ⊎ (t.state p ≡ attached)
      → Lasting z t t'
  lasting_marked p s w d which = record {
    onward = onward_marked z t t' p s w sane tree d which;
    paths = λ first last cs j all on c i. let h = all c i in record {
      number = h.number;
      on = d.states c.number ∙ h.on;
      low = h.low;
      edge = ⊎_elim
          (λ (at : (c.number ≡ p) × (c.side ≡ s)). let new : t'.link c.number c.side ≡ w = ap (λ
          (x : ℕ). t'.link x c.side) at.0 ∙ (ap (t'.link p) at.1 ∙ d.wired.there) in
          let old : t.link c.number c.side ≡ t.link p s = ap (λ (x : ℕ). t.link x c.side) at.0 ∙ ap (t.link p) at.1 in
          let tag : tag_bit (t.link p s) ≡ 1 = sym (ap tag_bit old) ∙ (ap tag_bit h.edge ∙ tagged_in first last cs c j i) in
          new ∙ (d.fixed tag ∙ (sym old ∙ h.edge)))
          (λ (ne : (c.number ≡ p) × (c.side ≡ s) → ⊥). d.wired.links c.number c.side h.number h.low ne
          ∙ h.edge) (is_there c.number c.side p s);
      beside = ⊎_elim
          (λ (at : (c.number ≡ p) × (across c.side ≡ s)). let new : t'.link c.number (across c.side) ≡ w = ap (λ
          (x : ℕ). t'.link x (across c.side)) at.0 ∙ (ap (t'.link p) at.1 ∙ d.wired.there) in
          let old : t.link c.number (across c.side) ≡ t.link p s = ap (λ (x : ℕ). t.link x (across c.side)) at.0
          ∙ ap (t.link p) at.1 in
          ap target new ∙ (d.to ∙ (sym (ap target old) ∙ h.beside)))
          (λ (ne : (c.number ≡ p) × (across c.side ≡ s) → ⊥). ap target (d.wired.links c.number (across c.side) h.number
          (across_low c.side) ne) ∙ h.beside)
          (is_there c.number (across c.side) p s);
    };
    flags = λ n r number used used' lt flag. flag_rewired p s w d.wired (λ on. (d.still on, d.to)) n r number lt flag;
  }

  pub lasting_spliced : Sane z t' → (a s w : ℕ) (In : ℕ → Type 0) → Spliced z t t' a s w In → Lasting z t t'
  lasting_spliced sane' a s w In d = record {
    onward = onward_spliced z t t' a s w In sane tree d sane';
    paths = λ first last cs j all on. path_rewired a s w d.wired d.cut.plain d.cut.free first last cs j all
        (λ c i. d.outside_state c.number (stays first last cs j all (λ k. (d.inside_state (target first) k).1 on)
        (λ b k. passed_internal z t sane tree cs last all first j b k) (λ b k. tagged_in first last cs b j k) c i)
        ∙ (all c i).on);
    flags = λ n r number used used' lt flag. flag_rewired a s w d.wired (λ on. let off = d.cut.plain in
        absurd (omega arith)) n r number lt flag;
  }
    where
      -- a path whose first record stays, stays
      stays : (first last : ℕ) (cs : List Passed) → Joined first cs last → Intact z t cs → (In (target first) → ⊥)
          → ((c : Passed) → IsIn c cs → Internal z t c.number)
          → ((c : Passed) → IsIn c cs → tag_bit c.word ≡ 1) → (c : Passed) → IsIn c cs → In c.number → ⊥
      stays first last [] j all out int tags c i = absurd (in_nil c i)
      stays first last (b ∷ cs) j all out int tags c i = let h = all b (in_first b cs) in let out_b : In b.number
          → ⊥ = λ k. out (subst In j.0 k) in ⊎_elim
          (λ (e : c ≡ b). λ k. out_b (subst In (ap (λ (y : Passed). y.number) e) k))
          (λ (later : IsIn c cs). stays b.word last cs j.2 (λ d k. all d (in_later d b cs k))
          (λ k. d.cut.outside b.number b.side (int b (in_first b cs)) h.low out_b
          (λ at. let free = d.cut.free in let bad : tag_bit (t.link a s) ≡ 1 = sym (ap (λ (x : ℕ). tag_bit
          (t.link x b.side)) at.0 ∙ ap (λ (x : ℕ). tag_bit (t.link a x)) at.1)
          ∙ (ap tag_bit h.edge ∙ tags b (in_first b cs)) in omega arith) (subst In (ap target (sym h.edge)) k))
          (λ d k. int d (in_later d b cs k)) (λ d k. tags d (in_later d b cs k)) c later)
          (in_cases c b cs i)

  pub lasting_fewer : Sane z t' → Fewer z t t' → Lasting z t t'
  lasting_fewer sane' d = record {
    onward = onward_fewer z t t' sane sane' tree d;
    paths = λ first last cs j all on c i. let h = all c i in let on' = d.attached_on c.number h.on in
        let u = is_used (t'.state c.number) on' in record {
          number = h.number;
          on = on';
          low = h.low;
          edge = d.valid c.number c.side h.number u h.low (sane'.leads c.number c.side h.number h.low on').valid ∙ h.edge;
          beside = (d.rest c.number (across c.side) h.number u (across_low c.side)).0 ∙ h.beside;
        };
    flags = λ n r number used used' lt flag. let same = d.rest n r number used' lt in let low = same.1 in (omega arith, same.0);
  }
