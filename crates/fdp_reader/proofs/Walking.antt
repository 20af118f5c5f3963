-- Lines lead one way, and no further than where they stop.
use Rattle.std.proofs.Common.{◌≡◌, ℕ, List, [], ◌∷◌, ◌++◌, Option, Some, None, refl, sym, ap, subst, ◌∙◌, append_assoc}
use Rattle.std.specs.Option.{option_map_or}
use Rattle.fdp_base.specs.declared.config.DriveConfig.{DriveConfig}
use Rattle.fdp_reader.specs.declared.place.Place.{Place}
use Rattle.fdp_reader.specs.declared.place.Place.TheVariants as places
use Rattle.fdp_reader.specs.Form.{AreLines, IsLine, Stops, Walks, step, text_of, walk}
use Rattle.fdp_reader.proofs.Cuts.{first-cut, line-cut, line-more, lines-append}

some-next : (f : Place → Option Place) (o : Option Place) (q : Place) → option_map_or f o None ≡ Some q → (n : Place) × (o ≡ Some n) × (f n ≡ Some q)
some-next f None q e = absurd cc
some-next f (Some n) q e = (n, refl, e)

pub some-one : (p q : Place) → Some p ≡ Some q → p ≡ q
some-one p q e = cc

no-both : (o : Option Place) (p : Place) → o ≡ None → o ≡ Some p → ⊥
no-both o p none some = cc

-- two ways through one text that both stop are one
pub record IsOneWay (ls ms : List (List ℕ)) (q r : Place) (x y : List ℕ) : Type 0 where
  pub lines : ls ≡ ms
  pub place : q ≡ r
  pub rest : x ≡ y

pub one-way : (c : DriveConfig) (p q r : Place) (ls ms : List (List ℕ)) (x y : List ℕ) → AreLines ls → AreLines ms → walk c p ls ≡ Some q → walk c p ms ≡ Some r
    → Stops c q x → Stops c r y → text_of ls ++ x ≡ text_of ms ++ y → IsOneWay ls ms q r x y
unfolding walk
one-way c p q r [] [] x y hl hm wl wm sx sy e = record { lines = refl; place = some-one q r (sym wl ∙ wm); rest = e }
one-way c p q r [] (m ∷ ms) x y hl hm wl wm sx sy e =
    let n = some-next (λ next. walk c next ms) (step c p m) r wm in
    let here = some-one p q wl in
    absurd (no-both (step c p m) n.0 (subst (λ (o : Place). step c o m ≡ None) (sym here) (sx m (text_of ms ++ y) hm.0 (e ∙ first-cut m ms y))) n.1)
one-way c p q r (l ∷ ls) [] x y hl hm wl wm sx sy e =
    let n = some-next (λ next. walk c next ls) (step c p l) q wl in
    let here = some-one p r wm in
    absurd (no-both (step c p l) n.0 (subst (λ (o : Place). step c o l ≡ None) (sym here) (sy l (text_of ls ++ x) hl.0 (sym e ∙ first-cut l ls x))) n.1)
one-way c p q r (l ∷ ls) (m ∷ ms) x y hl hm wl wm sx sy e =
    let both = line-cut l m (text_of ls ++ x) (text_of ms ++ y) hl.0 hm.0 (sym (first-cut l ls x) ∙ e ∙ first-cut m ms y) in
    let a = some-next (λ next. walk c next ls) (step c p l) q wl in
    let b = some-next (λ next. walk c next ms) (step c p m) r wm in
    let same : a.0 ≡ b.0 = some-one a.0 b.0 (sym a.1 ∙ ap (step c p) both.0 ∙ b.1) in
    let rest = one-way c b.0 q r ls ms x y hl.1 hm.1 (subst (λ (o : Place). walk c o ls ≡ Some q) same a.2) b.2 sx sy both.1 in
    record { lines = ap (λ (z : List ℕ). z ∷ ls) both.0 ∙ ap (λ (zs : List (List ℕ)). m ∷ zs) rest.lines; place = rest.place; rest = rest.rest }

-- one way, and another behind it
pub walk-on : (c : DriveConfig) (p q r : Place) (ls ms : List (List ℕ)) → walk c p ls ≡ Some q → walk c q ms ≡ Some r → walk c p (ls ++ ms) ≡ Some r
unfolding walk
walk-on c p q r [] ms w v = ap (λ (o : Place). walk c o ms) (some-one p q w) ∙ v
walk-on c p q r (l ∷ ls) ms w v =
    let n = some-next (λ next. walk c next ls) (step c p l) q w in
    ap (λ (o : Option Place). option_map_or (λ next. walk c next (ls ++ ms)) o None) n.1 ∙ walk-on c n.0 q r ls ms n.2 v

pub walk-one : (c : DriveConfig) (q r : Place) (line : List ℕ) → step c q line ≡ Some r → walk c q (line ∷ []) ≡ Some r
unfolding walk
walk-one c q r line s = ap (λ (o : Option Place). option_map_or (λ next. Some next) o None) s

-- at the start of a text
pub walks-none : (c : DriveConfig) (text : List ℕ) → Walks c text places.Start text
unfolding walk
walks-none c text = record { lines = []; whole = tt; text_is = refl; steps = refl }

-- a line more
pub walks-more : (c : DriveConfig) (text : List ℕ) (p q : Place) (rest line after : List ℕ) → Walks c text p rest → IsLine line → rest ≡ line ++ 10 ∷ after → step c p line ≡ Some q → Walks c text q after
walks-more c text p q rest line after w is cut s = record {
  lines = w.lines ++ line ∷ [];
  whole = lines-append w.lines (line ∷ []) w.whole (is, tt);
  text_is = w.text_is ∙ ap (λ (t : List ℕ). text_of w.lines ++ t) cut ∙ sym (append_assoc (text_of w.lines) line (10 ∷ after)) ∙ sym (line-more w.lines line after);
  steps = walk-on c places.Start p q w.lines (line ∷ []) w.steps (walk-one c p q line s);
}
