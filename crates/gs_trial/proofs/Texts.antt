-- The text of reports, and of reports behind others.
use Rattle.std.proofs.Common.{◌≡◌, ◌+◌, ℕ, List, [], ◌++◌, length, take, Option, sym, ap, subst, ◌∙◌, append_assoc}
use Rattle.std.proofs.Common.{Bool, true, false, refl, append-nil, arith, inl, inr}
use Rattle.std.specs.Prelude.{MatchBool}
use Rattle.std.specs.Io.KnownBytes.{Appends}
use Rattle.std.proofs.KnownBytes.{Appends-nil, Appends-trans}
use Rattle.std.proofs.lemmas.Grind.{flat_map-append}
use Rattle.std.proofs.Math.Seq.{take-append_seam, take-append-add, take-length}
use Rattle.std.proofs.lemmas.List.{take-append-le, take_all}
use Rattle.std.proofs.lemmas.Bool.{cases_lt}
use Rattle.gs_bytes.specs.Outside.{AppendsPart}
use Rattle.gs_bytes.proofs.Cases.{match_more}
use Rattle.gs_command.specs.declared.command.Detail.{Detail}
use Rattle.gs_run.specs.Report.{Report, report_text, text_of}
use Rattle.gs_report.specs.Reporting.{Reporting, with_reports}
use Rattle.gs_report.proofs.Reported.{with_more, with_none}
use Rattle.gs_schedule.specs.declared.status.TrialStatus.{TrialStatus}
use Rattle.gs_trial.specs.Trial.{WritesFront, is_of_source}
use Rattle.gs_trial.specs.Running.{WritesPart, WritesUpTo, WritesWaiting}

pub text-append : (detail : Detail) (xs ys : List Report) → text_of detail (xs ++ ys) ≡ text_of detail xs ++ text_of detail ys
text-append detail xs ys = flat_map-append (report_text detail) xs ys

-- ---- a reporter's text

pub more_text : (r : Reporting) (xs ys : List Report) → (with_reports r xs).text ++ text_of r.detail ys ≡ (with_reports r (xs ++ ys)).text
more_text r xs ys = ap (λ (s : Reporting). s.text) (with_more r xs ys)

-- ---- what is written

pub front_none : (a : Option (List ℕ)) (text : List ℕ) → WritesFront a a text
front_none a text = (0, Appends-nil a)

pub front_all : (a b : Option (List ℕ)) (text : List ℕ) → Appends a b text → WritesFront a b text
front_all a b text w = (length text, subst (Appends a b) (sym (take-length text)) w)

-- a front of what stands behind a text that was written
pub front_behind : (a b c : Option (List ℕ)) (xs ys : List ℕ) → Appends a b xs → WritesFront b c ys → WritesFront a c (xs ++ ys)
front_behind a b c xs ys w (n, f) = (length xs + n, subst (Appends a c) (sym (take-append-add xs ys n)) (Appends-trans a b c xs (take n ys) w f))

-- a front of a text is one of each text that begins with it
pub front_longer : (a c : Option (List ℕ)) (xs ys : List ℕ) → WritesFront a c xs → WritesFront a c (xs ++ ys)
front_longer a c xs ys (n, f) = elim (cases_lt n (length xs)) [
  | inl less ↦ (n, subst (Appends a c) (sym (take-append-le n xs ys (omega (arith, less)))) f)
  | inr more ↦
      let all : take n xs ≡ take (length xs) (xs ++ ys) = take_all n xs more ∙ sym (take-append_seam xs ys) in
      (length xs, subst (Appends a c) all f)
]

pub front_part : (a b : Option (List ℕ)) (text : List ℕ) → AppendsPart a b text → WritesFront a b text
front_part a b text (n, less, wrote) = (n, wrote)

-- ---- text that waits

-- all of it
pub up_to_none : (a : Option (List ℕ)) (text : List ℕ) → WritesUpTo a a text text
up_to_none a text = ([], Appends-nil a, refl)

-- none of it
pub up_to_all : (a b : Option (List ℕ)) (text waits : List ℕ) → waits ≡ [] → Appends a b text → WritesUpTo a b text waits
up_to_all a b text waits none wrote = (text, wrote, sym (append-nil text) ∙ ap (λ (l : List ℕ). text ++ l) (sym none))

-- some of what waited was written
pub up_to_on : (a b c : Option (List ℕ)) (text waits now : List ℕ) → WritesUpTo a b text waits → WritesUpTo b c waits now → WritesUpTo a c text now
up_to_on a b c text waits now (w, p, e) (v, q, f) =
    (w ++ v, Appends-trans a b c w v p q, e ∙ ap (λ (l : List ℕ). w ++ l) f ∙ sym (append_assoc w v now))

longer : (text w waits more : List ℕ) → text ≡ w ++ waits → w ++ (waits ++ more) ≡ text ++ more
longer text w waits more e = sym (ap (λ (l : List ℕ). l ++ more) e ∙ append_assoc w waits more)

-- what waited got longer, and then some of it was written
pub up_to_more : (a b c : Option (List ℕ)) (text waits more now : List ℕ) → WritesUpTo a b text waits → WritesUpTo b c (waits ++ more) now
    → WritesUpTo a c (text ++ more) now
up_to_more a b c text waits more now (w, p, e) (v, q, f) =
    (w ++ v, Appends-trans a b c w v p q, sym (longer text w waits more e) ∙ ap (λ (l : List ℕ). w ++ l) f ∙ sym (append_assoc w v now))

-- or all of it
pub all_behind : (a b c : Option (List ℕ)) (text waits more : List ℕ) → WritesUpTo a b text waits → Appends b c (waits ++ more) → Appends a c (text ++ more)
all_behind a b c text waits more (w, p, e) q =
    subst (Appends a c) (longer text w waits more e) (Appends-trans a b c w (waits ++ more) p q)

-- or a front of it
pub front_on : (a b c : Option (List ℕ)) (text waits more : List ℕ) → WritesUpTo a b text waits → WritesFront b c (waits ++ more)
    → WritesFront a c (text ++ more)
front_on a b c text waits more (w, p, e) q =
    subst (WritesFront a c) (longer text w waits more e) (front_behind a b c w (waits ++ more) p q)

-- ---- a part of what waited and of the text of reports

-- what waited, before any of the reports
pub part_of : (answer : TrialStatus) (before : Reporting) (rs : List Report) (a b : Option (List ℕ)) → WritesWaiting answer a b before.text
    → WritesPart answer before rs a b
part_of answer before rs a b wrote =
    match_more (is_of_source answer) _ _ _ _
    (λ all. (0, subst (λ (r : Reporting). Appends a b r.text) (sym (with_none before)) all))
    (λ front. front_longer a b before.text (text_of before.detail rs) front)
    wrote

-- where no source failed, any front
pub part_front : (answer : TrialStatus) (before : Reporting) (rs : List Report) (a b : Option (List ℕ)) → is_of_source answer ≡ false
    → WritesFront a b (with_reports before rs).text → WritesPart answer before rs a b
part_front answer before rs a b not front =
    subst (λ (x : Bool). MatchBool x ((n : ℕ) × Appends a b (with_reports before (take n rs)).text) (WritesFront a b (with_reports before rs).text))
    (sym not) front

pub waiting_front : (answer : TrialStatus) (a b : Option (List ℕ)) (waits : List ℕ) → is_of_source answer ≡ false → WritesFront a b waits
    → WritesWaiting answer a b waits
waiting_front answer a b waits not front = subst (λ (x : Bool). MatchBool x (Appends a b waits) (WritesFront a b waits)) (sym not) front

-- a front of reports is one of more of them
front_of_more : (n : ℕ) (xs ys : List Report) → (m : ℕ) × (take m (xs ++ ys) ≡ take n xs)
front_of_more n xs ys = elim (cases_lt n (length xs)) [
  | inl less ↦ (n, take-append-le n xs ys (omega (arith, less)))
  | inr more ↦ (length xs, take-append_seam xs ys ∙ sym (take_all n xs more))
]

pub part_longer : (answer : TrialStatus) (before : Reporting) (xs ys : List Report) (a b : Option (List ℕ)) → WritesPart answer before xs a b
    → WritesPart answer before (xs ++ ys) a b
part_longer answer before xs ys a b wrote =
    match_more (is_of_source answer) _ _ _ _
    (λ (n, all). let m = front_of_more n xs ys in (m.0, subst (λ (l : List Report). Appends a b (with_reports before l).text) (sym m.1) all))
    (λ front. subst (WritesFront a b) (more_text before xs ys) (front_longer a b (with_reports before xs).text (text_of before.detail ys) front))
    wrote

-- behind what waited, and reports of which a part still waits
pub part_on : (answer : TrialStatus) (before here : Reporting) (xs ys : List Report) (a b c : Option (List ℕ)) → here.detail ≡ before.detail
    → WritesUpTo a b (with_reports before xs).text here.text → WritesPart answer here ys b c → WritesPart answer before (xs ++ ys) a c
part_on answer before here xs ys a b c same first wrote =
    match_more (is_of_source answer) _ _ _ _
    (λ (n, all). (
      length xs + n,
      subst (λ (l : List Report). Appends a c (with_reports before l).text) (sym (take-append-add xs ys n))
          (subst (Appends a c) (more_text before xs (take n ys))
          (all_behind a b c (with_reports before xs).text here.text (text_of before.detail (take n ys)) first
          (subst (λ (d : Detail). Appends b c (here.text ++ text_of d (take n ys))) same all))),
    ))
    (λ front. subst (WritesFront a c) (more_text before xs ys)
    (front_on a b c (with_reports before xs).text here.text (text_of before.detail ys) first
    (subst (λ (d : Detail). WritesFront b c (here.text ++ text_of d ys)) same front)))
    wrote

-- reports behind others
pub up_to_reports : (before here : Reporting) (xs ys : List Report) (a b c : Option (List ℕ)) (now : List ℕ) → here.detail ≡ before.detail
    → WritesUpTo a b (with_reports before xs).text here.text → WritesUpTo b c (with_reports here ys).text now
    → WritesUpTo a c (with_reports before (xs ++ ys)).text now
up_to_reports before here xs ys a b c now same first second =
    let next : WritesUpTo b c (here.text ++ text_of before.detail ys) now =
    subst (λ (d : Detail). WritesUpTo b c (here.text ++ text_of d ys) now) same second in
    subst (λ (l : List ℕ). WritesUpTo a c l now) (more_text before xs ys)
    (up_to_more a b c (with_reports before xs).text here.text (text_of before.detail ys) now first next)
