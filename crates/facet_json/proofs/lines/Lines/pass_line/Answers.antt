-- A line is begun or gone on with, and then read to where it stops.
use Rattle.std.proofs.Common.{[], ◌∷◌, subst, refl, rules}
use Rattle.facet_json.specs.Lines.{Lines, PassesLines, PassesBlank, RefusesLine}
use Rattle.facet_json.specs.Inner.LinePlaces.{left_at}
use Rattle.facet_json.specs.declared.lines.LinePlace.TheVariants.{Between, Within, Past}
use Rattle.facet_json.proofs.LinesRead.{first-then, grown-within, fed-line, last-line, long-line, failure-refused, none-blank, one-passed, long-refused}
use Rattle.facet_json.proofs.lines.Lines.pass_line.Goals as goal

pub returns-in-Ok-TooLong-clause-err : goal.returns-in-Ok-TooLong-clause-err
returns-in-Ok-TooLong-clause-err g c =
    let stop = rw c.in-Ok-TooLong.field-0-is at c.in-Ok-TooLong.ensures.stop in
    let new : Lines = record { left = left_at Past c.read_text.new.text.items (g.R.Read.remaining c.read_text.new.reader); line = c.read_text.new.text.items; number = c.in-Some.number; limit = c.self.inside.limit } in
    let at = (c.in_default-resume.ensures.one c.self.inside.limit c.self.invariant).0 in
    let long = long-line c.self.inside.limit c.resume.new.text.items _ _ _ at stop.0 stop.1 in
    (subst (λ s. RefusesLine s new) c.self.view_is (long-refused _ new (long.0, long.1, first-then _ _ new.left [] (long.0 ∷ []) c.in_default-resume.ensures.begun long.2) (search rules) refl), refl)

pub returns-in-Err-read_text-clause-err : goal.returns-in-Err-read_text-clause-err
returns-in-Err-read_text-clause-err g c =
    let new : Lines = record { left = left_at Within c.read_text.new.text.items (g.R.Read.remaining c.read_text.new.reader); line = c.read_text.new.text.items; number = c.self.inside.number; limit = c.self.inside.limit } in
    let first = first-then _ _ new.left [] [] c.in_default-resume.ensures.begun (grown-within _ _ _ _ c.in-Err-read_text.ensures.err) in
    failure-refused c.args.self.now new c.failed-in-Err-read_text.result c.failed-in-Err-read_text.ensures
    (subst (λ s. PassesBlank s new) c.self.view_is (none-blank _ new first refl refl))

pub returns-in-Ok-LineFeed-clause-line : goal.returns-in-Ok-LineFeed-clause-line
returns-in-Ok-LineFeed-clause-line g c _ =
    let stop = rw c.in-Ok-LineFeed.field-0-is at c.in-Ok-LineFeed.ensures.stop in
    let text = c.read_text.new.text.items in
    let new : Lines = record { left = left_at Between text (g.R.Read.remaining c.read_text.new.reader); line = text; number = c.in-Some.number; limit = c.self.inside.limit } in
    let at = (c.in_default-resume.ensures.one c.self.inside.limit c.self.invariant).0 in
    let first = first-then _ _ new.left [] (text ∷ []) c.in_default-resume.ensures.begun (fed-line c.resume.new.text.items text _ _ at stop) in
    subst (λ s. PassesLines s new (text ∷ [])) c.self.view_is (one-passed _ new text first (search rules) refl)

pub returns-else-is_empty-clause-line : goal.returns-else-is_empty-clause-line
returns-else-is_empty-clause-line g c _ =
    let stop = rw c.in-Ok-End.field-0-is at c.in-Ok-End.ensures.stop in
    let text = c.read_text.new.text.items in
    let new : Lines = record { left = left_at Between text (g.R.Read.remaining c.read_text.new.reader); line = text; number = c.in-Some.number; limit = c.self.inside.limit } in
    let at = (c.in_default-resume.ensures.one c.self.inside.limit c.self.invariant).0 in
    let first = first-then _ _ new.left [] (text ∷ []) c.in_default-resume.ensures.begun (last-line c.resume.new.text.items text _ _ at (search rules) stop.0 stop.1) in
    subst (λ s. PassesLines s new (text ∷ [])) c.self.view_is (one-passed _ new text first (search rules) refl)
