-- One print after another: what was written and what waits.
use Rattle.std.proofs.Common.{get_or, take, drop, take-append-drop, true, false, IsOk, length-append, subst, ◌≡◌, ℕ, ◌+◌, ◌<◌}
use Rattle.std.proofs.Common.{◌≤◌, List, [], ◌∷◌, ◌++◌, length, Option, Some, None, Result, Ok, Err, refl, sym, ap, ◌∙◌}
use Rattle.std.proofs.Common.{append_assoc, append-nil, arith}
use Rattle.std.specs.Io.KnownBytes.{Appends, Keeps}
use Rattle.std.specs.List.{flat_map}
use Rattle.std.proofs.lemmas.List.{take_more, drop-append-le}
use Rattle.std.proofs.lemmas.Grind.{flat_map-append}
use Rattle.std.proofs.KnownBytes.{Appends-nil, Appends-trans}
use Rattle.pp_outside.specs.Outside.{Rose, HasCause, GrewByPrefix, WroteOn, no_write, next_write, WroteToFault, WritesTillFault, OffersAll}
use Rattle.pp_outside.specs.declared.Failed.{Failed}
use Rattle.pp_trace.specs.Printing.{Waiting, Prints, Broke, Printing, Waits, Puts, OffersFull, WritesOnce}

-- nothing was printed
pub Prints-none : (a : Option (List ℕ)) (waits : List ℕ) → Prints a a waits waits []
Prints-none a waits = record { front = []; written = Appends-nil a; same = sym (append-nil waits) }

-- two texts, one after the other
pub Prints-then : {a b c : Option (List ℕ)} {w x y t u : List ℕ} → Prints a b w x t → Prints b c x y u → Prints a c w y (t ++ u)
Prints-then {a} {b} {c} {w} {x} {y} {t} {u} p q = record {
  front = p.front ++ q.front;
  written = Appends-trans a b c p.front q.front p.written q.written;
  same = append_assoc p.front q.front y ∙ ap (λ l. p.front ++ l) q.same ∙ sym (append_assoc p.front x u)
      ∙ ap (λ l. l ++ u) p.same ∙ append_assoc w t u;
}

-- a text, and then one that broke off
pub Broke-then : {a b c : Option (List ℕ)} {w x y t u : List ℕ} → Prints a b w x t → Broke b c x y u → Broke a c w y (t ++ u)
Broke-then {a} {b} {c} {w} {x} {y} {t} {u} p q = record {
  front = p.front ++ q.front;
  rest = q.rest;
  written = Appends-trans a b c p.front q.front p.written q.written;
  same = append_assoc p.front q.front (y ++ q.rest) ∙ ap (λ l. p.front ++ l) q.same ∙ sym (append_assoc p.front x u)
      ∙ ap (λ l. l ++ u) p.same ∙ append_assoc w t u;
}

-- a text that broke off is the front of any longer one
pub Broke-longer : {a b : Option (List ℕ)} {w x t : List ℕ} (u : List ℕ) → Broke a b w x t → Broke a b w x (t ++ u)
Broke-longer {a} {b} {w} {x} {t} u p = record {
  front = p.front;
  rest = p.rest ++ u;
  written = p.written;
  same = ap (λ l. p.front ++ l) (sym (append_assoc x p.rest u)) ∙ sym (append_assoc p.front (x ++ p.rest) u)
      ∙ ap (λ l. l ++ u) p.same ∙ append_assoc w t u;
}

Appends-same : (a b : Option (List ℕ)) (xs ys : List ℕ) → xs ≡ ys → Appends a b xs → Appends a b ys
Appends-same None b xs ys e h = tt
Appends-same (Some x) None xs ys e h = h
Appends-same (Some x) (Some y) xs ys e h = h ∙ ap (λ l. x ++ l) e

-- a sink that took nothing
pub Broke-kept : (a b : Option (List ℕ)) (waited waits : List ℕ) → waits ≡ waited → Keeps a b → Broke a b waited waits []
Broke-kept a b waited waits e h = record { front = []; rest = []; written = none a b h; same = ap (λ l. l ++ []) e }
  where
    none : (a b : Option (List ℕ)) → Keeps a b → Appends a b []
    none None b h = tt
    none (Some x) None h = h
    none (Some x) (Some y) h = h ∙ sym (append-nil x)

-- a sink that failed shows a front of what waited and the text
pub GrewByPrefix-broke : {a b : Option (List ℕ)} {x t : List ℕ} → Broke a b [] x t → GrewByPrefix a b t
GrewByPrefix-broke {a} {b} {x} {t} p = (p.front, x ++ p.rest, sym p.same, p.written)

-- a count of faults that rose since a later moment rose
pub Rose-since : (a b c : ℕ) → a ≤ b → Rose b c → Rose a c
Rose-since a b c h r = omega arith

-- a call that failed or not, after some that didn't
pub HasCause-since : {T E : Type 0} (a b c : ℕ) (r : Result T E) → b ≡ a → HasCause b c r → HasCause a c r
HasCause-since a b c r same p = rw (← same) p

-- ---- writes

-- some writes, and then some more
WroteOn-then : {K : Type 0} {Writes : K → K → List ℕ → Result ℕ Failed → Type 0} {Offers : List ℕ → List ℕ → Type 0}
    {s t : K} {x y : List ℕ} {u : K} {z : List ℕ} → WroteOn Writes Offers s x t y → WroteOn Writes Offers t y u z
    → WroteOn Writes Offers s x u z
WroteOn-then a no_write = a
WroteOn-then a (next_write s t rest front later n b is offers few made) =
    next_write s t rest front later n (WroteOn-then a b) is offers few made

-- writes of full buffers, where more was to be written
WroteOn-longer : {K : Type 0} {Writes : K → K → List ℕ → Result ℕ Failed → Type 0} {s : K} {x : List ℕ} {t : K} {y : List ℕ} (more : List ℕ)
    → WroteOn Writes OffersFull s x t y → WroteOn Writes OffersFull s (x ++ more) t (y ++ more)
WroteOn-longer more no_write = no_write
WroteOn-longer {K} {Writes} {s} {x = x} more (next_write b t rest front later n a is offers few made) =
    let fits : n ≤ length rest = omega (arith, few, ap length is, length-append front later) in
    subst (λ (left : List ℕ). WroteOn Writes OffersFull s (x ++ more) t left) (drop-append-le n rest more fits)
    (next_write b t (rest ++ more) front (later ++ more) n (WroteOn-longer more a) (ap (λ l. l ++ more) is ∙ append_assoc front later more)
    offers few made)

-- some writes of full buffers, and then some of which the last failed, where more was to be written
WroteToFault-then : {K : Type 0} {Writes : K → K → List ℕ → Result ℕ Failed → Type 0} {s t u : K} {x y z : List ℕ} (more : List ℕ)
    → WroteOn Writes OffersFull s x t (y ++ more) → WroteToFault Writes OffersFull t y u z → WroteToFault Writes OffersFull s x u z
WroteToFault-then {K} {Writes} {s} {t} {u} {x} {y} {z} more a b = record {
  last = b.last;
  later = b.later ++ more;
  before = subst (λ (left : List ℕ). WroteOn Writes OffersFull s x b.last left) (append_assoc z b.later more)
      (WroteOn-then a (WroteOn-longer more b.before));
  offers = b.offers;
  why = b.why;
  failed = b.failed;
}

-- one write of all that waited
pub Written-once : {K : Type 0} (Writes : K → K → List ℕ → Result ℕ Failed → Type 0) (Offers : List ℕ → List ℕ → Type 0)
    (s t : K) (waited waits : List ℕ) (r : Result (Unit {0}) Failed) → Offers waited [] → WritesOnce Writes s waited t waits r
    → WritesTillFault Writes Offers s waited t waits r
Written-once {K} Writes Offers s t waited waits (Ok u) offers once =
    subst (λ (left : List ℕ). WroteOn Writes Offers s waited t left) (sym once.3)
    (next_write s t waited waited [] once.0 no_write (sym (append-nil waited)) offers once.1 once.2)
Written-once {K} Writes Offers s t waited waits (Err e) offers once =
    let none : WroteOn Writes Offers s waited s (waited ++ []) =
    subst (λ (left : List ℕ). WroteOn Writes Offers s waited s left) (sym (append-nil waited)) no_write in
    let failed : WroteToFault Writes Offers s waited t waited =
    record { last = s; later = []; before = none; offers = offers; why = once.0; failed = once.1 } in
    subst (λ (left : List ℕ). WroteToFault Writes Offers s waited t left) (sym once.2) failed

-- some writes of all that waited, and then one more
pub Written-then : {K : Type 0} {Writes : K → K → List ℕ → Result ℕ Failed → Type 0} {s t : K} {x y : List ℕ} (u : K) (z : List ℕ)
    (r : Result (Unit {0}) Failed) → WroteOn Writes OffersAll s x t y → WritesTillFault Writes OffersAll t y u z r
    → WritesTillFault Writes OffersAll s x u z r
Written-then u z (Ok o) a b = WroteOn-then a b
Written-then u z (Err e) a b =
    record { last = b.last; later = b.later; before = WroteOn-then a b.before; offers = b.offers; why = b.why; failed = b.failed }

-- Part of a text was printed, and this rest is still to come.
pub record Underway {K : Type 0} (written : K → Option (List ℕ)) (faults : K → ℕ) (Writes : K → K → List ℕ → Result ℕ Failed → Type 0)
    (old new : K) (was is : Waiting) (rest text : List ℕ) : Type 0 where
  pub front : List ℕ
  pub grew : Appends (written old) (written new) front
  pub same : front ++ (is.waits ++ rest) ≡ was.waits ++ text
  pub kept : faults new ≡ faults old
  pub writes : WroteOn Writes OffersFull old (was.waits ++ text) new (is.waits ++ rest)
  pub fits : length was.waits + length text ≤ 65536 → (new ≡ old) × (is.waits ++ rest ≡ was.waits ++ text)
  pub whole : is.failed ≡ false

pub Underway-none : {K : Type 0} (written : K → Option (List ℕ)) (faults : K → ℕ) (Writes : K → K → List ℕ → Result ℕ Failed → Type 0)
    (s : K) (p : Waiting) (text : List ℕ)
    → p.failed ≡ false → Underway written faults Writes s s p p text text
Underway-none written faults Writes s p text h = record {
  front = [];
  grew = Appends-nil (written s);
  same = refl;
  kept = refl;
  writes = no_write;
  fits = λ _. (refl, refl);
  whole = h;
}

-- a write, or none where there was room
pub Underway-written : {K : Type 0} {written : K → Option (List ℕ)} {faults : K → ℕ} {Writes : K → K → List ℕ → Result ℕ Failed → Type 0}
    {old s t : K} {was p q : Waiting} {rest text : List ℕ}
    → Underway written faults Writes old s was p rest text → 0 < length rest
    → Prints (written s) (written t) p.waits q.waits [] → faults t ≡ faults s → WroteOn Writes OffersFull s p.waits t q.waits
    → (length p.waits < 65536 → Waits s t p.waits q.waits [] (Ok tt)) → q.failed ≡ false
    → Underway written faults Writes old t was q rest text
Underway-written {K} {written} {faults} {Writes} {old} {s} {t} {was} {p} {q} {rest} {text} u some pr kept writes roomy whole = record {
  front = u.front ++ pr.front;
  grew = Appends-trans (written old) (written s) (written t) u.front pr.front u.grew pr.written;
  same = append_assoc u.front pr.front (q.waits ++ rest)
      ∙ ap (λ l. u.front ++ l) (sym (append_assoc pr.front q.waits rest) ∙ ap (λ l. l ++ rest) (pr.same ∙ append-nil p.waits))
      ∙ u.same;
  kept = kept ∙ u.kept;
  writes = WroteOn-then u.writes (WroteOn-longer rest writes);
  fits = λ h.
      let f = u.fits h in
      let n : length p.waits + length rest ≡ length was.waits + length text =
      sym (length-append p.waits rest) ∙ ap length f.1 ∙ length-append was.waits text in
      let r = roomy (omega (arith, n)) in
      (r.untouched ∙ f.0, ap (λ l. l ++ rest) (r.behind ∙ append-nil p.waits) ∙ f.1);
  whole = whole;
}

-- some of the rest went behind what waits
pub Underway-kept : {K : Type 0} {written : K → Option (List ℕ)} {faults : K → ℕ} {Writes : K → K → List ℕ → Result ℕ Failed → Type 0}
    {old s : K} {was p q : Waiting} {rest left text : List ℕ}
    → Underway written faults Writes old s was p rest text → q.waits ++ left ≡ p.waits ++ rest → q.failed ≡ p.failed
    → Underway written faults Writes old s was q left text
Underway-kept {K} {written} {faults} {Writes} {old} {s} {was} {p} {q} {rest} {left} {text} u e f = record {
  front = u.front;
  grew = u.grew;
  same = ap (λ l. u.front ++ l) e ∙ u.same;
  kept = u.kept;
  writes = subst (λ (left : List ℕ). WroteOn Writes OffersFull old (was.waits ++ text) s left) (sym e) u.writes;
  fits = λ h. let k = u.fits h in (k.0, e ∙ k.1);
  whole = f ∙ u.whole;
}

-- nothing is left to print
pub Puts-done : {K : Type 0} {written : K → Option (List ℕ)} {faults : K → ℕ} {Writes : K → K → List ℕ → Result ℕ Failed → Type 0}
    {old s : K} {was p : Waiting} {rest text : List ℕ}
    → Underway written faults Writes old s was p rest text → length rest ≡ 0 → Puts written faults Writes old s was p text (Ok tt)
Puts-done {K} {written} {faults} {Writes} {old} {s} {was} {p} {rest = []} {text} u h = record {
  printed = record { front = u.front; written = u.grew; same = ap (λ l. u.front ++ l) (sym (append-nil _)) ∙ u.same };
  cause = record { later = omega (arith, u.kept); failed = tt; kept = u.kept };
  fits = λ h. let k = u.fits h in record { untouched = k.0; behind = sym (append-nil _) ∙ k.1; ok = refl };
  writes = subst (λ (left : List ℕ). WroteOn Writes OffersFull old (was.waits ++ text) s left) (append-nil p.waits) u.writes;
  failed = u.whole;
}
Puts-done {rest = x ∷ xs} u h = absurd (omega (arith, h))

-- a write failed while the buffer was full
pub Puts-failed : {K : Type 0} {written : K → Option (List ℕ)} {faults : K → ℕ} {Writes : K → K → List ℕ → Result ℕ Failed → Type 0}
    {old s t : K} {was p q : Waiting} {rest text : List ℕ} (e : Failed)
    → Underway written faults Writes old s was p rest text → 0 < length rest
    → Broke (written s) (written t) p.waits q.waits [] → HasCause {T = Unit {0}} (faults s) (faults t) (Err e)
    → (length p.waits < 65536 → Waits s t p.waits q.waits [] (Err e)) → WroteToFault Writes OffersFull s p.waits t q.waits
    → q.failed ≡ true
    → Puts written faults Writes old t was q text (Err e)
Puts-failed {K} {written} {faults} {Writes} {old} {s} {t} {was} {p} {q} {rest} {text} e u some br cause roomy fault failed = record {
  printed = record {
    front = u.front ++ br.front;
    rest = br.rest ++ rest;
    written = Appends-trans (written old) (written s) (written t) u.front br.front u.grew br.written;
    same = append_assoc u.front br.front (q.waits ++ (br.rest ++ rest))
        ∙ ap (λ l. u.front ++ l) (ap (λ l. br.front ++ l) (sym (append_assoc q.waits br.rest rest))
        ∙ sym (append_assoc br.front (q.waits ++ br.rest) rest) ∙ ap (λ l. l ++ rest) (br.same ∙ append-nil p.waits))
        ∙ u.same;
  };
  cause = HasCause-since (faults old) (faults s) (faults t) (Err e) u.kept cause;
  fits = λ h.
      let f = u.fits h in
      let n : length p.waits + length rest ≡ length was.waits + length text =
      sym (length-append p.waits rest) ∙ ap length f.1 ∙ length-append was.waits text in
      let r = roomy (omega (arith, n)) in
      absurd (err_is_not_ok e r.ok);
  writes = WroteToFault-then rest u.writes fault;
  failed = failed;
}
  where
    err_is_not_ok : (e : Failed) → IsOk {T = Unit {0}} (Err e) → ⊥
    err_is_not_ok e h = cc

-- no text
pub Puts-none : {K : Type 0} (written : K → Option (List ℕ)) (faults : K → ℕ) (Writes : K → K → List ℕ → Result ℕ Failed → Type 0)
    (s : K) (p : Waiting) → p.failed ≡ false
    → Puts written faults Writes s s p p [] (Ok tt)
Puts-none written faults Writes s p h = Puts-done (Underway-none written faults Writes s p [] h) refl

-- two texts, one after the other, of which the second may break off
pub Puts-then : {K : Type 0} {written : K → Option (List ℕ)} {faults : K → ℕ} {Writes : K → K → List ℕ → Result ℕ Failed → Type 0}
    {s0 s1 s2 : K} {p0 p1 p2 : Waiting} {t u : List ℕ} (r : Result (Unit {0}) Failed)
    → Puts written faults Writes s0 s1 p0 p1 t (Ok tt) → Puts written faults Writes s1 s2 p1 p2 u r
    → Puts written faults Writes s0 s2 p0 p2 (t ++ u) r
Puts-then {K} {written} {faults} {Writes} {s0} {s1} {s2} {p0} {p1} {p2} {t} {u} r a b = record {
  printed = printed r a.printed b.printed;
  cause = HasCause-since (faults s0) (faults s1) (faults s2) r a.cause.kept b.cause;
  fits = λ h.
      let n = length-append t u in
      let f = a.fits (omega (arith, n)) in
      let m : length p1.waits ≡ length p0.waits + length t = ap length f.behind ∙ length-append p0.waits t in
      let g = b.fits (omega (arith, n, m)) in
      record {
        untouched = g.untouched ∙ f.untouched;
        behind = g.behind ∙ ap (λ l. l ++ u) f.behind ∙ append_assoc p0.waits t u;
        ok = g.ok;
      };
  writes = subst (λ (all : List ℕ). WritesTillFault Writes OffersFull s0 all s2 p2.waits r) (append_assoc p0.waits t u)
      (writes r a.writes b.writes);
  failed = b.failed;
}
  where
    writes : (r : Result (Unit {0}) Failed) → WroteOn Writes OffersFull s0 (p0.waits ++ t) s1 p1.waits
        → WritesTillFault Writes OffersFull s1 (p1.waits ++ u) s2 p2.waits r
        → WritesTillFault Writes OffersFull s0 ((p0.waits ++ t) ++ u) s2 p2.waits r
    writes (Ok x) a b = WroteOn-then (WroteOn-longer u a) b
    writes (Err e) a b = record {
      last = b.last;
      later = b.later;
      before = WroteOn-then (WroteOn-longer u a) b.before;
      offers = b.offers;
      why = b.why;
      failed = b.failed;
    }

    printed : (r : Result (Unit {0}) Failed) → Prints (written s0) (written s1) p0.waits p1.waits t
        → Printing (written s1) (written s2) p1.waits p2.waits u r → Printing (written s0) (written s2) p0.waits p2.waits (t ++ u) r
    printed (Ok x) a b = Prints-then a b
    printed (Err e) a b = Broke-then a b

-- a text that broke off is the front of any longer one
pub Puts-longer : {K : Type 0} {written : K → Option (List ℕ)} {faults : K → ℕ} {Writes : K → K → List ℕ → Result ℕ Failed → Type 0}
    {s0 s1 : K} {p0 p1 : Waiting} {t : List ℕ} (u : List ℕ) (e : Failed)
    → Puts written faults Writes s0 s1 p0 p1 t (Err e) → Puts written faults Writes s0 s1 p0 p1 (t ++ u) (Err e)
Puts-longer {K} {written} {faults} {Writes} {s0} {s1} {p0} {p1} {t} u e a = record {
  printed = Broke-longer u a.printed;
  cause = a.cause;
  fits = λ h. absurd (err_is_not_ok e (a.fits (omega (arith, length-append t u))).ok);
  writes = subst (λ (all : List ℕ). WroteToFault Writes OffersFull s0 all s1 p1.waits) (append_assoc p0.waits t u) (longer a.writes);
  failed = a.failed;
}
  where
    longer : WroteToFault Writes OffersFull s0 (p0.waits ++ t) s1 p1.waits → WroteToFault Writes OffersFull s0 ((p0.waits ++ t) ++ u) s1
        p1.waits
    longer f = record {
      last = f.last;
      later = f.later ++ u;
      before = subst (λ (left : List ℕ). WroteOn Writes OffersFull s0 ((p0.waits ++ t) ++ u) f.last left) (append_assoc p1.waits f.later u)
          (WroteOn-longer u f.before);
      offers = f.offers;
      why = f.why;
      failed = f.failed;
    }

    err_is_not_ok : (e : Failed) → IsOk {T = Unit {0}} (Err e) → ⊥
    err_is_not_ok e h = cc

-- the line of one more item
pub Puts-item : {K : Type 0} {written : K → Option (List ℕ)} {faults : K → ℕ} {Writes : K → K → List ℕ → Result ℕ Failed → Type 0}
    {s0 s1 s2 : K} {p0 p1 p2 : Waiting} {A : Type 0} {t : List ℕ}
    (h : List ℕ) (line : A → List ℕ) (xs : List A) (i : ℕ) (d : A) (r : Result (Unit {0}) Failed)
    → i < length xs → t ≡ line (get_or xs i d)
    → Puts written faults Writes s0 s1 p0 p1 (h ++ flat_map line (take i xs)) (Ok tt) → Puts written faults Writes s1 s2 p1 p2 t r
    → Puts written faults Writes s0 s2 p0 p2 (h ++ flat_map line (take (i + 1) xs)) r
Puts-item {K} {written} {faults} {Writes} {s0} {s1} {s2} {p0} {p1} {p2} {A} {t} h line xs i d r lt is a b =
    let more : flat_map line (take (i + 1) xs) ≡ flat_map line (take i xs) ++ t =
    ap (flat_map line) (take_more xs i d lt) ∙ flat_map-append line (take i xs) (get_or xs i d ∷ [])
    ∙ ap (λ l. flat_map line (take i xs) ++ l) (append-nil (line (get_or xs i d)) ∙ sym is) in
    let text : (h ++ flat_map line (take i xs)) ++ t ≡ h ++ flat_map line (take (i + 1) xs) =
    append_assoc h (flat_map line (take i xs)) t ∙ ap (λ l. h ++ l) (sym more) in
    let P : List ℕ → Type 0 = λ l. Puts written faults Writes s0 s2 p0 p2 l r in
    subst P text (Puts-then r a b)

-- lines that broke off are the front of all lines
pub Puts-cut : {K : Type 0} {written : K → Option (List ℕ)} {faults : K → ℕ} {Writes : K → K → List ℕ → Result ℕ Failed → Type 0}
    {s0 s1 : K} {p0 p1 : Waiting} {A : Type 0}
    (h : List ℕ) (line : A → List ℕ) (xs : List A) (n : ℕ) (e : Failed)
    → Puts written faults Writes s0 s1 p0 p1 (h ++ flat_map line (take n xs)) (Err e)
    → Puts written faults Writes s0 s1 p0 p1 (h ++ flat_map line xs) (Err e)
Puts-cut {K} {written} {faults} {Writes} {s0} {s1} {p0} {p1} h line xs n e a =
    let rest = flat_map line (drop n xs) in
    let text : (h ++ flat_map line (take n xs)) ++ rest ≡ h ++ flat_map line xs =
    append_assoc h (flat_map line (take n xs)) rest
    ∙ ap (λ l. h ++ l) (sym (flat_map-append line (take n xs) (drop n xs)) ∙ ap (flat_map line) (take-append-drop n xs)) in
    let P : List ℕ → Type 0 = λ l. Puts written faults Writes s0 s1 p0 p1 l (Err e) in
    subst P text (Puts-longer rest e a)

-- a front that broke off
pub Puts-front : {K : Type 0} {written : K → Option (List ℕ)} {faults : K → ℕ} {Writes : K → K → List ℕ → Result ℕ Failed → Type 0}
    {s0 s1 : K} {p0 p1 : Waiting} {t : List ℕ}
    (h u : List ℕ) (e : Failed) → t ≡ h
    → Puts written faults Writes s0 s1 p0 p1 t (Err e) → Puts written faults Writes s0 s1 p0 p1 (h ++ u) (Err e)
Puts-front {K} {written} {faults} {Writes} {s0} {s1} {p0} {p1} h u e is a =
    let P : List ℕ → Type 0 = λ l. Puts written faults Writes s0 s1 p0 p1 (l ++ u) (Err e) in
    subst P is (Puts-longer u e a)

-- A fresh printer's text, and then its end: the sink took the text.
pub Appends-ended : {K : Type 0} {written : K → Option (List ℕ)} {faults : K → ℕ} {Writes : K → K → List ℕ → Result ℕ Failed → Type 0}
    {s0 s1 s2 : K} {p0 p1 : Waiting} {text left : List ℕ} → p0.waits ≡ [] → Puts written faults Writes s0 s1 p0 p1 text (Ok tt)
    → Prints (written s1) (written s2) p1.waits left [] → left ≡ [] → Appends (written s0) (written s2) text
Appends-ended {K} {written} {faults} {Writes} {s0} {s1} {s2} {p0} {p1} {text} {left} fresh a b none =
    let p = Prints-then a.printed b in
    let all : p.front ≡ text =
    sym (append-nil p.front) ∙ ap (λ l. p.front ++ l) (sym none) ∙ p.same ∙ ap (λ l. l ++ (text ++ [])) fresh ∙ append-nil text in
    Appends-same (written s0) (written s2) p.front text all p.written

-- where its end failed, the sink took a front of the text
pub GrewByPrefix-ended : {K : Type 0} {written : K → Option (List ℕ)} {faults : K → ℕ} {Writes : K → K → List ℕ → Result ℕ Failed → Type 0}
    {s0 s1 s2 : K} {p0 p1 : Waiting} {text left : List ℕ} → p0.waits ≡ [] → Puts written faults Writes s0 s1 p0 p1 text (Ok tt)
    → Broke (written s1) (written s2) p1.waits left [] → GrewByPrefix (written s0) (written s2) text
GrewByPrefix-ended {K} {written} {faults} {Writes} {s0} {s1} {s2} {p0} {p1} {text} {left} fresh a b =
    let p = Broke-then a.printed b in
    (p.front, left ++ p.rest, sym (p.same ∙ ap (λ l. l ++ (text ++ [])) fresh ∙ append-nil text), p.written)
