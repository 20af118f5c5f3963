-- What an entry more makes of a history.
use Rattle.std.proofs.Common.{◌≡◌, ◌≤◌, Bool, true, false, ◌||◌, IsTrue, List, [], ◌∷◌, ◌++◌, refl, sym, ◌∙◌, ap, subst, arith}
use Rattle.std.specs.List.{list_any}
use Rattle.std.proofs.lemmas.Bool.{false≢true}
use Rattle.std.proofs.lemmas.List.Folds.{list_any-append}
use Rattle.fdp_base.specs.declared.config.DriveConfig.{DriveConfig}
use Rattle.fdp_base.specs.declared.entry.Entry.{Entry}
use Rattle.fdp_relocation.specs.fdp_book.Book.{BookSeen, IsLonger, point_in}
use Rattle.fdp_core.specs.Seen.{HasMoments, IsLegalOver}
use Rattle.fdp_flash.specs.FlashState.{FlashState}
use Rattle.fdp_loading.specs.fdp_ledger.Told.{is_media_reply}
use Rattle.fdp_rules.specs.History.{Found}
use Rattle.fdp_rules.specs.Legal.{IsLegal}
use Rattle.fdp_rules.specs.Next.{next}
use Rattle.fdp_rules.specs.Point.{Point}
use Rattle.fdp_rules.specs.Step.{Follows}
use Rattle.fdp_rules.proofs.Pushes.{legal-push, point_of-push}

split : (es : List Entry) (x y : Entry) → es ++ x ∷ y ∷ [] ≡ (es ++ x ∷ []) ++ y ∷ []
split [] x y = refl
split (e ∷ es) x y = ap (λ (xs : List Entry). e ∷ xs) (split es x y)

-- ---- what is legal

legal-as : (told : Bool) (b d : BookSeen) (es : List Entry) → IsLonger b d es → IsLegal told b.config b.found (b.entries ++ es) → IsLegal told d.config d.found d.entries
legal-as told b d es longer legal =
    subst (λ (c : DriveConfig). IsLegal told c d.found d.entries) (sym longer.config_is)
    (subst (λ (f : Found). IsLegal told b.config f d.entries) (sym longer.found_is)
    (subst (IsLegal told b.config b.found) (sym longer.entries_are) legal))

before : (f n : FlashState) → f.moment ≤ n.moment → HasMoments n → HasMoments f
before f n later moments = omega (arith, later, moments)

or-first : (a b : Bool) → a ≡ true → a || b ≡ true
or-first true b e = refl
or-first false b e = absurd (false≢true e)

or-second : (a b : Bool) → b ≡ true → a || b ≡ true
or-second true b e = refl
or-second false b e = e

-- a media error among the entries before, or among those that were added, is one of the history
tells-before : (b d : BookSeen) (es : List Entry) → IsLonger b d es → IsTrue (list_any is_media_reply b.entries) → IsTrue (list_any is_media_reply d.entries)
tells-before b d es longer tells = ap (list_any is_media_reply) longer.entries_are ∙ list_any-append is_media_reply b.entries es ∙ or-first (list_any is_media_reply b.entries) (list_any is_media_reply es) tells

tells-behind : (b d : BookSeen) (es : List Entry) → IsLonger b d es → IsTrue (list_any is_media_reply es) → IsTrue (list_any is_media_reply d.entries)
tells-behind b d es longer tells = ap (list_any is_media_reply) longer.entries_are ∙ list_any-append is_media_reply b.entries es ∙ or-second (list_any is_media_reply b.entries) (list_any is_media_reply es) tells

-- what was legal is so still
legal-told : (f n : FlashState) (b d : BookSeen) (es : List Entry) → IsLonger b d es → n.told ≡ f.told → f.moment ≤ n.moment → IsLegalOver f b → (IsTrue (list_any is_media_reply d.entries) → HasMoments n) → IsLegal n.told b.config b.found b.entries
legal-told f n b d es longer told later legal moments =
    subst (λ (t : Bool). IsLegal t b.config b.found b.entries) (sym told) (legal (λ tells. before f n later (moments (tells-before b d es longer tells))))

pub legal-none : (f n : FlashState) (b d : BookSeen) → IsLonger b d [] → n.told ≡ f.told → f.moment ≤ n.moment → IsLegalOver f b → IsLegalOver n d
legal-none f n b d longer told later legal moments =
    legal-as n.told b d [] longer (subst (IsLegal n.told b.config b.found) (none b.entries) (legal-told f n b d [] longer told later legal moments))
  where
    none : (es : List Entry) → es ≡ es ++ []
    none [] = refl
    none (e ∷ es) = ap (λ (xs : List Entry). e ∷ xs) (none es)

pub legal-one : (f n : FlashState) (b d : BookSeen) (e : Entry) → IsLonger b d (e ∷ []) → n.told ≡ f.told → f.moment ≤ n.moment → IsLegalOver f b → ((IsTrue (is_media_reply e) → HasMoments n) → Follows n.told b.config (point_in b) e) → IsLegalOver n d
legal-one f n b d e longer told later legal follows moments =
    legal-as n.told b d (e ∷ []) longer (legal-push n.told b.config b.found b.entries e (legal-told f n b d (e ∷ []) longer told later legal moments)
    (follows (λ tells. moments (tells-behind b d (e ∷ []) longer (or-first (is_media_reply e) false tells)))))

pub legal-two : (f n : FlashState) (b d : BookSeen) (x y : Entry) → IsLonger b d (x ∷ y ∷ []) → n.told ≡ f.told → f.moment ≤ n.moment → IsLegalOver f b → ((IsTrue (is_media_reply x) → HasMoments n) → Follows n.told b.config (point_in b) x) →
    ((IsTrue (is_media_reply y) → HasMoments n) → Follows n.told b.config (next b.config (point_in b) x) y) → IsLegalOver n d
legal-two f n b d x y longer told later legal first second moments =
    let one : (IsTrue (is_media_reply x) → HasMoments n) = λ tells. moments (tells-behind b d (x ∷ y ∷ []) longer (or-first (is_media_reply x) (is_media_reply y || false) tells)) in
    let two : (IsTrue (is_media_reply y) → HasMoments n) = λ tells. moments (tells-behind b d (x ∷ y ∷ []) longer (or-second (is_media_reply x) (is_media_reply y || false) (or-first (is_media_reply y) false tells))) in
    legal-as n.told b d (x ∷ y ∷ []) longer (subst (IsLegal n.told b.config b.found) (sym (split b.entries x y))
    (legal-push n.told b.config b.found (b.entries ++ x ∷ []) y
    (legal-push n.told b.config b.found b.entries x (legal-told f n b d (x ∷ y ∷ []) longer told later legal moments) (first one))
    (subst (λ (p : Point). Follows n.told b.config p y) (sym (point_of-push b.config b.found b.entries x)) (second two))))
