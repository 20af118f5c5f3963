-- Lists that are laid piece by piece.
use Rattle.std.proofs.Common.{◌≡◌, ℕ, suc, ◌+◌, ◌-◌, ◌*◌, ◌<◌, List, [], ◌∷◌, ◌++◌, length, take, drop, refl, sym, ap, subst, ◌∙◌, arith, append_assoc, Result, Ok, Err}
use Rattle.std.specs.Prelude.{flat_map, OnOk}
use Rattle.std.specs.List.{All, AllZip}
use Rattle.std.proofs.lemmas.List.{append-nil, length-append, take_at, drop_at}
use Rattle.std.proofs.Math.Seq.{take-add}
use Rattle.std.proofs.lemmas.Grind.{flat_map-append}
use Rattle.fdp_binary.specs.Saying.{AreLaid}
use Rattle.fdp_binary.specs.Carrying.{Extends}

pub AllZip-pushed : {A B : Type 0} (R : A → B → Type 0) (xs : List A) (ys : List B) (x : A) (y : B) → AllZip R xs ys → R x y → AllZip R (xs ++ x ∷ []) (ys ++ y ∷ [])
AllZip-pushed R [] [] x y each h = (h, tt)
AllZip-pushed R [] (b ∷ ys) x y each h = absurd each
AllZip-pushed R (a ∷ xs) [] x y each h = absurd each
AllZip-pushed R (a ∷ xs) (b ∷ ys) x y each h = (each.0, AllZip-pushed R xs ys x y each.1 h)

pub AllZip-joined : {A B : Type 0} (R : A → B → Type 0) (xs : List A) (ys : List B) (us : List A) (vs : List B) → AllZip R xs ys → AllZip R us vs → AllZip R (xs ++ us) (ys ++ vs)
AllZip-joined R [] [] us vs each more = more
AllZip-joined R [] (b ∷ ys) us vs each more = absurd each
AllZip-joined R (a ∷ xs) [] us vs each more = absurd each
AllZip-joined R (a ∷ xs) (b ∷ ys) us vs each more = (each.0, AllZip-joined R xs ys us vs each.1 more)

-- pieces behind pieces
pub pieces-pushed : (pieces : List (List ℕ)) (piece : List ℕ) → flat_map (λ (p : List ℕ). p) (pieces ++ piece ∷ []) ≡ flat_map (λ (p : List ℕ). p) pieces ++ piece
pieces-pushed pieces piece = flat_map-append (λ (p : List ℕ). p) pieces (piece ∷ []) ∙ ap (λ (t : List ℕ). flat_map (λ (p : List ℕ). p) pieces ++ t) (append-nil piece)

pub nothing-laid : {X : Type 0} (IsItem : List ℕ → X → Type 0) → AreLaid IsItem [] []
nothing-laid IsItem = record { pieces = []; whole = refl; each = tt }

pub laid-pushed : {X : Type 0} (IsItem : List ℕ → X → Type 0) (body new piece : List ℕ) (items : List X) (item : X) → AreLaid IsItem body items → IsItem piece item → new ≡ body ++ piece → AreLaid IsItem new (items ++ item ∷ [])
laid-pushed IsItem body new piece items item laid is e = record {
  pieces = laid.pieces ++ piece ∷ [];
  whole = e ∙ ap (λ (t : List ℕ). t ++ piece) laid.whole ∙ sym (pieces-pushed laid.pieces piece);
  each = AllZip-pushed IsItem laid.pieces items piece item laid.each is;
}

-- each item as a piece of its own
pub laid-out : {X : Type 0} (IsItem : List ℕ → X → Type 0) (P : X → Type 0) (f : X → List ℕ) → ((x : X) → P x → IsItem (f x) x) → (items : List X) → All P items → AreLaid IsItem (flat_map f items) items
laid-out IsItem P f each [] all = nothing-laid IsItem
laid-out IsItem P f each (x ∷ xs) all =
    let rest = laid-out IsItem P f each xs (λ k d lt. all (suc k) d (omega arith)) in
    record { pieces = f x ∷ rest.pieces; whole = ap (λ (t : List ℕ). f x ++ t) rest.whole; each = (each x (all 0 x (omega arith)), rest.each) }

next-piece : (body : List ℕ) (w n : ℕ) → take (w * (n + 1)) body ≡ take (w * n) body ++ take (w * n + w - w * n) (drop (w * n) body)
next-piece body w n =
    let m : w * (n + 1) ≡ w * n + w = omega arith in
    let k : w * n + w - w * n ≡ w = omega arith in
    ap (λ (j : ℕ). take j body) m ∙ take-add (w * n) w body ∙ ap (λ (j : ℕ). take (w * n) body ++ take j (drop (w * n) body)) (sym k)

-- one piece more is read
pub laid-step : {X : Type 0} (IsItem : List ℕ → X → Type 0) (w n : ℕ) (body : List ℕ) (items new : List X) (item : X) → (length items ≡ n) × AreLaid IsItem (take (w * n) body) items → IsItem (take (w * n + w - w * n) (drop (w * n) body)) item → new ≡ items ++ item ∷ []
    → (length new ≡ n + 1) × AreLaid IsItem (take (w * (n + 1)) body) new
laid-step IsItem w n body items new item so_far is pushed =
    let piece = take (w * n + w - w * n) (drop (w * n) body) in (
      ap (λ t. length t) pushed ∙ length-append items (item ∷ []) ∙ ap (λ (k : ℕ). k + 1) so_far.0,
      subst (λ t. AreLaid IsItem (take (w * (n + 1)) body) t) (sym pushed) (laid-pushed IsItem (take (w * n) body) (take (w * (n + 1)) body) piece items item so_far.1 is (next-piece body w n)),
    )

-- lists with fronts of one length are the same in front and behind
pub same-front : (xs ys a b : List ℕ) → length xs ≡ length ys → xs ++ a ≡ ys ++ b → (xs ≡ ys) × (a ≡ b)
same-front xs ys a b len e =
    let n = length ys in
    (sym (take_at xs a n len) ∙ ap (take n) e ∙ take_at ys b n refl, sym (drop_at xs a n len) ∙ ap (drop n) e ∙ drop_at ys b n refl)

-- pieces of one size, each of one item: the items are one list
one_list : {X : Type 0} (IsItem : List ℕ → X → Type 0) (size : ℕ) → 0 < size → ((p : List ℕ) (x : X) → IsItem p x → length p ≡ size) → ((p : List ℕ) (x y : X) → IsItem p x → IsItem p y → x ≡ y)
    → (ps : List (List ℕ)) (xs : List X) (qs : List (List ℕ)) (ys : List X) → AllZip IsItem ps xs → AllZip IsItem qs ys → flat_map (λ (p : List ℕ). p) ps ≡ flat_map (λ (p : List ℕ). p) qs → xs ≡ ys
one_list IsItem size some sized same [] [] [] [] hp hq e = refl
one_list IsItem size some sized same [] [] (q ∷ qs) (y ∷ ys) hp hq e =
    absurd (omega (arith, sized q y hq.0, ap (λ (t : List ℕ). length t) e, length-append q (flat_map (λ (p : List ℕ). p) qs)))
one_list IsItem size some sized same (p ∷ ps) (x ∷ xs) [] [] hp hq e =
    absurd (omega (arith, sized p x hp.0, ap (λ (t : List ℕ). length t) e, length-append p (flat_map (λ (p : List ℕ). p) ps)))
one_list IsItem size some sized same (p ∷ ps) (x ∷ xs) (q ∷ qs) (y ∷ ys) hp hq e =
    let cut = same-front p q (flat_map (λ (t : List ℕ). t) ps) (flat_map (λ (t : List ℕ). t) qs) (sized p x hp.0 ∙ sym (sized q y hq.0)) e in
    let first : x ≡ y = same q x y (subst (λ (t : List ℕ). IsItem t x) cut.0 hp.0) hq.0 in
    let rest : xs ≡ ys = one_list IsItem size some sized same ps xs qs ys hp.1 hq.1 cut.1 in
    λ i. first i ∷ rest i
one_list IsItem size some sized same [] [] [] (y ∷ ys) hp hq e = absurd hq
one_list IsItem size some sized same [] [] (q ∷ qs) [] hp hq e = absurd hq
one_list IsItem size some sized same (p ∷ ps) (x ∷ xs) [] (y ∷ ys) hp hq e = absurd hq
one_list IsItem size some sized same (p ∷ ps) (x ∷ xs) (q ∷ qs) [] hp hq e = absurd hq
one_list IsItem size some sized same [] (x ∷ xs) qs ys hp hq e = absurd hp
one_list IsItem size some sized same (p ∷ ps) [] qs ys hp hq e = absurd hp

pub one_laid : {X : Type 0} (IsItem : List ℕ → X → Type 0) (size : ℕ) → 0 < size → ((p : List ℕ) (x : X) → IsItem p x → length p ≡ size) → ((p : List ℕ) (x y : X) → IsItem p x → IsItem p y → x ≡ y)
    → (body : List ℕ) (xs ys : List X) → AreLaid IsItem body xs → AreLaid IsItem body ys → xs ≡ ys
one_laid IsItem size some sized same body xs ys a b = one_list IsItem size some sized same a.pieces xs b.pieces ys a.each b.each (sym a.whole ∙ b.whole)

pieces-length : {X : Type 0} (IsItem : List ℕ → X → Type 0) (size : ℕ) → ((p : List ℕ) (x : X) → IsItem p x → length p ≡ size) → (ps : List (List ℕ)) (xs : List X) → AllZip IsItem ps xs → length (flat_map (λ (p : List ℕ). p) ps) ≡ size * length xs
pieces-length IsItem size sized [] [] each = omega arith
pieces-length IsItem size sized [] (x ∷ xs) each = absurd each
pieces-length IsItem size sized (p ∷ ps) [] each = absurd each
pieces-length IsItem size sized (p ∷ ps) (x ∷ xs) each =
    omega (arith, length-append p (flat_map (λ (t : List ℕ). t) ps), sized p x each.0, pieces-length IsItem size sized ps xs each.1)

-- the length of data that are laid in pieces of one size
pub laid-length : {X : Type 0} (IsItem : List ℕ → X → Type 0) (size : ℕ) → ((p : List ℕ) (x : X) → IsItem p x → length p ≡ size) → (body : List ℕ) (xs : List X) → AreLaid IsItem body xs → length body ≡ size * length xs
laid-length IsItem size sized body xs laid = ap (λ (t : List ℕ). length t) laid.whole ∙ pieces-length IsItem size sized laid.pieces xs laid.each

-- ---- bytes that grow

pub grows : (old mid new piece : List ℕ) → Extends old mid → new ≡ mid ++ piece → Extends old new
grows old mid new piece e is = record { more = e.more ++ piece; whole = is ∙ ap (λ (t : List ℕ). t ++ piece) e.whole ∙ append_assoc old e.more piece }

pub grows-none : (old : List ℕ) → Extends old old
grows-none old = record { more = []; whole = sym (append-nil old) }

pub grows-same : (old mid new : List ℕ) → Extends old mid → new ≡ mid → Extends old new
grows-same old mid new e is = subst (λ (t : List ℕ). Extends old t) (sym is) e

pub grows-again : (old mid new : List ℕ) → Extends old mid → Extends mid new → Extends old new
grows-again old mid new e f = grows old mid new f.more e f.whole

pub when_ok : {T E : Type 0} (A B : Type 0) (r : Result T E) → (A → B) → OnOk r A → OnOk r B
when_ok A B (Ok x) next h = next h
when_ok A B (Err e) next h = tt

pub on_ok : {T E : Type 0} (A : Type 0) (r : Result T E) → A → OnOk r A
on_ok A (Ok x) h = h
on_ok A (Err e) h = tt
