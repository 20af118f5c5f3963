-- Prints of entries, one behind another.
use Rattle.std.proofs.Common.{◌≡◌, ℕ, ◌+◌, ◌<◌, List, [], ◌∷◌, ◌++◌, length, refl, sym, ap, ◌∙◌, append_assoc, arith}
use Rattle.std.proofs.lemmas.List.{append-nil, length-append}
use Rattle.fdp_base.specs.declared.config.DriveConfig.{DriveConfig}
use Rattle.fdp_base.specs.declared.entry.Entry.{Entry}
use Rattle.fdp_base.specs.Geometry.{IsBlockSize}
use Rattle.fdp_output.specs.HistoryText.{entry_data, entry_lines}
use Rattle.fdp_prints.specs.Told.{AreTold, IsToldAt, printed}
use Rattle.fdp_prints.proofs.Lines.{entry-cut, entry-one, entry_row}
use Rattle.fdp_reader.specs.Form.{text_of}
use Rattle.fdp_reader.specs.Next.{AreRead, StopsAt}
use Rattle.fdp_reader.proofs.Cuts.{lines-append, no-end, text-append}
use Rattle.fdp_reader.proofs.Ending.{IsWhole, entry-whole, whole-append}

pub printed-append : (c : DriveConfig) (xs ys : List (ℕ × Entry)) → printed c.block (xs ++ ys) ≡ printed c.block xs ++ printed c.block ys
printed-append c [] ys = refl
printed-append c (x ∷ xs) ys = ap (λ (t : List ℕ). entry_lines c.block x.0 x.1 ++ t) (printed-append c xs ys) ∙ sym (append_assoc (entry_lines c.block x.0 x.1) (printed c.block xs) (printed c.block ys))

pub told-append : (c : DriveConfig) (xs ys : List (ℕ × Entry)) → AreTold c xs → AreTold c ys → AreTold c (xs ++ ys)
told-append c [] ys hx hy = hy
told-append c (x ∷ xs) ys hx hy = (hx.0, told-append c xs ys hx.1 hy)

pub printed-whole : (c : DriveConfig) (xs : List (ℕ × Entry)) → AreTold c xs → IsWhole (printed c.block xs)
printed-whole c [] told = record { lines = []; whole = tt; text_is = refl }
printed-whole c (x ∷ xs) told = whole-append (entry_lines c.block x.0 x.1) (printed c.block xs) (entry-whole c x.0 x.1 told.0.0 told.0.1) (printed-whole c xs told.1)

-- entries that are printed as these and more
pub record HasMore (c : DriveConfig) (xs zs : List (ℕ × Entry)) (rest : List ℕ) : Type 0 where
  pub others : List (ℕ × Entry)
  pub entries : zs ≡ xs ++ others
  pub told : AreTold c others
  pub text : printed c.block others ≡ rest

pub told-more : (c : DriveConfig) (xs zs : List (ℕ × Entry)) (rest : List ℕ) → IsBlockSize c.block → AreTold c xs → AreTold c zs → printed c.block zs ≡ printed c.block xs ++ rest → HasMore c xs zs rest
told-more c [] zs rest is hx hz e = record { others = zs; entries = refl; told = hz; text = e }
told-more c (x ∷ xs) [] rest is hx hz e =
    absurd (no-end (entry_row x.0 x.1) (entry_data c.block x.1 ++ (printed c.block xs ++ rest)) (sym (entry-cut c x.0 x.1 (printed c.block xs ++ rest)) ∙ sym (append_assoc (entry_lines c.block x.0 x.1) (printed c.block xs) rest) ∙ sym e))
told-more c (x ∷ xs) (z ∷ zs) rest is hx hz e =
    let t = entry-one c z.0 x.0 z.1 x.1 (printed c.block zs) (printed c.block xs ++ rest) is hz.0.0 hx.0.0 hz.0.1 hx.0.1 (e ∙ append_assoc (entry_lines c.block x.0 x.1) (printed c.block xs) rest) in
    let others = told-more c xs zs rest is hx.1 hz.1 t.2 in
    record {
      others = others.others;
      entries = ap (λ (p : ℕ). (p, z.1) ∷ zs) t.0 ∙ ap (λ (d : Entry). (x.0, d) ∷ zs) t.1 ∙ ap (λ (ys : List (ℕ × Entry)). x ∷ ys) others.entries;
      told = others.told;
      text = others.text;
    }

-- ---- entries that are read one by one

pub read-none : (c : DriveConfig) (text : List ℕ) → AreRead c text [] text
read-none c text = record { told = tt; text_is = refl }

pub read-more : (c : DriveConfig) (text : List ℕ) (xs : List (ℕ × Entry)) (x : ℕ × Entry) (rest later : List ℕ) → AreRead c text xs rest → IsToldAt c x → rest ≡ entry_lines c.block x.0 x.1 ++ later → AreRead c text (xs ++ x ∷ []) later
read-more c text xs x rest later r told is = record {
  told = told-append c xs (x ∷ []) r.told (told, tt);
  text_is = r.text_is ∙ ap (λ (t : List ℕ). printed c.block xs ++ t) is ∙ ap (λ (t : List ℕ). printed c.block xs ++ (t ++ later)) (sym (append-nil (entry_lines c.block x.0 x.1)))
      ∙ sym (append_assoc (printed c.block xs) (printed c.block (x ∷ [])) later) ∙ ap (λ (t : List ℕ). t ++ later) (sym (printed-append c xs (x ∷ [])));
}

pub regroup : (a b l m : List ℕ) → ((a ++ b) ++ l) ++ m ≡ a ++ ((b ++ l) ++ m)
regroup a b l m = simp append_assoc

-- what stops behind entries stops, so many bytes further
pub stop-behind : (c : DriveConfig) (text : List ℕ) (xs : List (ℕ × Entry)) (later : List ℕ) (before len : ℕ) → IsBlockSize c.block → AreRead c text xs later → 0 < length later → before ≡ length (printed c.block xs)
    → StopsAt c later len → StopsAt c text (before + len)
stop-behind c text xs later before len is r some count s =
    let w = printed-whole c xs r.told in
    let e = s.is_end in
    let A = text_of w.lines in
    let B = text_of s.lines in
    let both : text_of (w.lines ++ s.lines) ≡ printed c.block xs ++ B = text-append w.lines s.lines ∙ ap (λ (t : List ℕ). t ++ B) (sym w.text_is) in
    record {
      lines = w.lines ++ s.lines;
      rest = s.rest;
      is_end = record {
        whole = lines-append w.lines s.lines w.whole e.whole;
        text_is = r.text_is ∙ ap (λ (t : List ℕ). printed c.block xs ++ t) e.text_is ∙ sym (append_assoc (printed c.block xs) B s.rest) ∙ ap (λ (t : List ℕ). t ++ s.rest) (sym both);
        entries = xs ++ e.entries;
        told = told-append c xs e.entries r.told e.told;
        more = e.more;
        begins = printed-append c xs e.entries ∙ ap (λ (t : List ℕ). printed c.block xs ++ t) e.begins ∙ sym (append_assoc (printed c.block xs) B e.more) ∙ ap (λ (t : List ℕ). t ++ e.more) (sym both);
        ends = λ line after more zs is-line cut told eq.
            let own : printed c.block zs ≡ printed c.block xs ++ ((B ++ line) ++ 10 ∷ more) = eq ∙ ap (λ (t : List ℕ). (t ++ line) ++ 10 ∷ more) both ∙ regroup (printed c.block xs) B line (10 ∷ more) in
            let m = told-more c xs zs ((B ++ line) ++ 10 ∷ more) is r.told told own in
            e.ends line after more m.others is-line cut m.told m.text;
        none = λ zs told eq full.
            let m = told-more c xs zs later is r.told told (eq ∙ r.text_is) in
            e.none m.others m.told m.text some;
      };
      len_is = omega (arith, count, s.len_is, ap (λ (t : List ℕ). length t) both, length-append (printed c.block xs) B);
    }
