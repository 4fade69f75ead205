-- The lines of tokens, one by one, and how a run ends behind them.
use Rattle.std.proofs.Common.{◌≡◌, ◌≢◌, ℕ, List, [], ◌∷◌, ◌++◌, length, Option, Some, None, IfSome, IfNone, Result, Ok, Err, codes, refl, sym, ap, ◌∙◌, subst, inl, inr}
use Rattle.std.specs.List.{flat_map}
use Rattle.std.specs.Io.KnownBytes.{Appends, Keeps}
use Rattle.std.proofs.lemmas.List.{append-nil, append_assoc}
use Rattle.facet_format.specs.Span.{Span, span_at}
use Rattle.facet_format.specs.Views.{span_of}
use Rattle.facet_json_token.specs.declared.token.SpannedToken.{SpannedToken}
use Rattle.facet_json_token.specs.declared.token.ScanError.{ScanError}
use Rattle.facet_json_token.specs.declared.token.ScanErrorKind.{ScanErrorKind}
use Rattle.facet_json_token.specs.declared.token.ScanErrorKind.TheVariants as scan
use Rattle.facet_json_token.specs.Gap.{Mode}
use Rattle.facet_json_token.specs.Token.{Token, Fault}
use Rattle.facet_json_token.specs.Token as token
use Rattle.facet_json_token.specs.Tokens.{Tokens, ended, refused, next, AreCuts}
use Rattle.facet_json_scan.specs.Scanner.{ScanAnswer, needs_more, cuts, refuses}
use Rattle.facet_json_scan.specs.Scanner as scanner
use Rattle.facet_json_scan.specs.ScannerViews.{answered, fault_answered}
use Rattle.facet_json_scan.specs.declared.answer.Scanned.{Scanned}
use Rattle.facet_json_scan.specs.Listed.{token_then, tokens_of_list, refused_by, rest_after, AreAllOf, AreTokensOf}
use Rattle.facet_json_command.specs.declared.run.Outcome.{Outcome}
use Rattle.facet_json_command.specs.declared.run.Outcome.TheVariants.{Done, Refused, Io, Usage}
use Rattle.facet_json_command.specs.Lines.{place_line}
use Rattle.facet_json_command.specs.TokenLines.{token_line, token_lines, fault_code, EndAs}
use Rattle.facet_json_command.specs.TokenViews.{line_answered, text_of_token, code_of_kind}
use Rattle.facet_json_command.specs.Outcome.{IsFaultOfRun}
use Rattle.facet_json_command.specs.Run.{OnlyGrows, Prints, AreTokensListed, ListsTokens}
use Rattle.facet_json_command.specs.Session.{outcome_of}
use Rattle.facet_json_command.proofs.Printing.{appends_both, appends_keeps, stops_behind, stops_keeps}
use Rattle.facet_json_command.proofs.Listing.{grows_keeps}
use Rattle.facet_json_command.proofs.Endings.{Ends, no_growth, io_is_not_usage}

-- ---- what a list of tokens begins with

-- The first token of a list is answered, and the others follow it.
pub record BeginsWith (answer : Option ScanAnswer) (others : Option Tokens) (these : Tokens) : Type 0 where
  pub first : Token
  pub rest : Tokens
  pub is_answered : answer ≡ Some (cuts first)
  pub follow : others ≡ Some rest
  pub all : these ≡ next first rest

begins_with : (answer : Option ScanAnswer) (others : Option Tokens) (these : Tokens) → token_then answer others ≡ Some these →
    BeginsWith answer others these
begins_with None others these e = cc
begins_with (Some (needs_more consumed span)) others these e = cc
begins_with (Some (scanner.ended span)) others these e = cc
begins_with (Some (refuses f)) others these e = cc
begins_with (Some (cuts t)) None these e = cc
begins_with (Some (cuts t)) (Some rest) these e =
    record { first = t; rest = rest; is_answered = refl; follow = refl; all = cc }

-- Their lines are those of the list, and then those of what follows.
pub listed_lines : (len : ℕ) (tokens : List SpannedToken) (last these : Tokens) → tokens_of_list tokens (Some last) ≡ Some these →
    token_lines len these ≡ flat_map text_of_token tokens ++ token_lines len last
listed_lines len [] last these e = let same : last ≡ these = cc in ap (token_lines len) (sym same)
listed_lines len (t ∷ tokens) last these e =
    let b = begins_with (answered (Ok t)) (tokens_of_list tokens (Some last)) these e in
    let here : text_of_token t ≡ token_line b.first = ap line_answered b.is_answered in
    ap (token_lines len) b.all
    ∙ ap (λ l. token_line b.first ++ l) (listed_lines len tokens last b.rest b.follow)
    ∙ sym (append_assoc (token_line b.first) (flat_map text_of_token tokens) (token_lines len last))
    ∙ ap (λ l. (l ++ flat_map text_of_token tokens) ++ token_lines len last) (sym here)

-- They end as what follows.
pub listed_ends : (tokens : List SpannedToken) (last these : Tokens) (outcome : Outcome) → tokens_of_list tokens (Some last) ≡ Some these →
    EndAs last outcome → EndAs these outcome
listed_ends [] last these outcome e h = let same : last ≡ these = cc in subst (λ t. EndAs t outcome) same h
listed_ends (t ∷ tokens) last these outcome e h =
    let b = begins_with (answered (Ok t)) (tokens_of_list tokens (Some last)) these e in
    subst (λ t. EndAs t outcome) (sym b.all) (listed_ends tokens last b.rest outcome b.follow h)

-- Something follows.
listed_last : (tokens : List SpannedToken) (last : Option Tokens) (these : Tokens) → tokens_of_list tokens last ≡ Some these →
    (end : Tokens) × (last ≡ Some end)
listed_last [] last these e = (these, e)
listed_last (t ∷ tokens) last these e =
    let b = begins_with (answered (Ok t)) (tokens_of_list tokens last) these e in listed_last tokens last b.rest b.follow

-- all of an input
pub all_cuts : (input : List ℕ) (mode : Mode) (o : Option Tokens) → AreAllOf input mode o →
    (these : Tokens) × (o ≡ Some these) × AreCuts input mode 0 these
all_cuts input mode None h = absurd h
all_cuts input mode (Some these) h = (these, refl, h)

-- A refusal is told by its number.
refusal_told : (s : Span) (k : ScanErrorKind) (end : Tokens) → refused_by (fault_answered s k) ≡ Some end →
    (f : Fault) × (end ≡ refused f) × (code_of_kind k ≡ fault_code f.kind) × (s ≡ f.span)
refusal_told s (scan.UnexpectedChar c) end e =
    let f : Fault = record { kind = token.unexpected_char c; span = s } in
    let same : refused f ≡ end = cc in (f, sym same, refl, refl)
refusal_told s (scan.UnexpectedEof text) end e =
    let f : Fault = record { kind = token.unexpected_eof text.now; span = s } in
    let same : refused f ≡ end = cc in (f, sym same, refl, refl)
refusal_told s scan.InvalidUtf8 end e = cc

-- ---- how the printing ends

-- The tokens are printed, and the end.
pub end_listed : {T : Type 0} (mode : Mode) (input : List ℕ) (tokens : List SpannedToken) (a b c : Option (List ℕ)) (result : Result T Outcome) →
    AreAllOf input mode (tokens_of_list tokens (Some ended)) → Appends a b (flat_map text_of_token tokens) →
    Prints b c (place_line (codes "Eof") (span_at (length input) 0)) result → ListsTokens mode input a c (outcome_of result)
end_listed mode input tokens a b c (Ok done) all printed last =
    let these = all_cuts input mode (tokens_of_list tokens (Some ended)) all in
    let text = flat_map text_of_token tokens in
    let end = place_line (codes "Eof") (span_at (length input) 0) in
    record {
      these = these.0;
      cuts = these.2;
      printed = subst (Appends a c) (sym (listed_lines (length input) tokens ended these.0 these.1))
          (appends_both a b c text end printed last);
      ends = listed_ends tokens ended these.0 Done these.1 refl;
    }
end_listed mode input tokens a b c (Err Done) all printed stops = absurd stops
end_listed mode input tokens a b c (Err (Refused code span)) all printed stops =
    inl (stops_behind a b c (flat_map text_of_token tokens) (Refused code span) printed stops)
end_listed mode input tokens a b c (Err Io) all printed stops = tt
end_listed mode input tokens a b c (Err Usage) all printed stops = absurd stops

-- The tokens are printed, and a refusal follows.
pub refusal_listed : (mode : Mode) (input : List ℕ) (tokens : List SpannedToken) (e : ScanError) (a b : Option (List ℕ)) →
    AreAllOf input mode (tokens_of_list tokens (rest_after (Some e))) → Appends a b (flat_map text_of_token tokens) →
    ListsTokens mode input a b (Refused (code_of_kind e.kind) (Some e.span))
refusal_listed mode input tokens e a b all printed =
    let these = all_cuts input mode (tokens_of_list tokens (rest_after (Some e))) all in
    let last = listed_last tokens (rest_after (Some e)) these.0 these.1 in
    let told = refusal_told (span_of e.span) e.kind last.0 last.1 in
    let text = flat_map text_of_token tokens in
    let listed : tokens_of_list tokens (Some last.0) ≡ Some these.0 = ap (tokens_of_list tokens) (sym last.1) ∙ these.1 in
    let lines : token_lines (length input) these.0 ≡ text =
    listed_lines (length input) tokens last.0 these.0 listed
    ∙ ap (λ end. text ++ token_lines (length input) end) told.1
    ∙ append-nil text in
    let outcome = Refused (code_of_kind e.kind) (Some e.span) in
    let ends : EndAs last.0 outcome =
    subst (λ end. EndAs end outcome) (sym told.1) (e.span, ap (λ n. Refused n (Some e.span)) told.2, told.3) in
    inr (record {
      these = these.0;
      cuts = these.2;
      printed = subst (Appends a b) (sym lines) printed;
      ends = listed_ends tokens last.0 these.0 outcome listed ends;
    })

-- ---- after the last line

tokens_listed_keep : (mode : Mode) (input : List ℕ) (a b c : Option (List ℕ)) (outcome : Outcome) →
    AreTokensListed mode input a b outcome → Keeps b c → AreTokensListed mode input a c outcome
tokens_listed_keep mode input a b c outcome listed keeps = record {
  these = listed.these;
  cuts = listed.cuts;
  printed = appends_keeps a b c (token_lines (length input) listed.these) listed.printed keeps;
  ends = listed.ends;
}

tokens_keep : (mode : Mode) (input : List ℕ) (a b c : Option (List ℕ)) (outcome : Outcome) → ListsTokens mode input a b outcome →
    Keeps b c → ListsTokens mode input a c outcome
tokens_keep mode input a b c Done lists keeps = tokens_listed_keep mode input a b c Done lists keeps
tokens_keep mode input a b c (Refused code span) (inl no_memory) keeps = inl (stops_keeps a b c (Refused code span) no_memory keeps)
tokens_keep mode input a b c (Refused code span) (inr told) keeps =
    inr (tokens_listed_keep mode input a b c (Refused code span) told keeps)
tokens_keep mode input a b c Io lists keeps = tt
tokens_keep mode input a b c Usage lists keeps = lists

tokens_grow : (mode : Mode) (input : List ℕ) (a b : Option (List ℕ)) (outcome : Outcome) → ListsTokens mode input a b outcome →
    outcome ≢ Io → OnlyGrows a b
tokens_grow mode input a b Done lists other = (token_lines (length input) lists.these, lists.printed)
tokens_grow mode input a b (Refused code span) (inl no_memory) other = no_memory.2
tokens_grow mode input a b (Refused code span) (inr told) other = (token_lines (length input) told.these, told.printed)
tokens_grow mode input a b Io lists other = absurd (other refl)
tokens_grow mode input a b Usage lists other = absurd lists

-- ---- `tokens`

pub unread_tokens : (mode : Mode) (remaining held : Option (List ℕ)) (outcome : Outcome) → IsFaultOfRun outcome →
    IfSome remaining (λ input. ListsTokens mode input held held outcome)
unread_tokens mode None held outcome failed = tt
unread_tokens mode (Some input) held outcome (inl memory) = rw memory (inl (refl, refl, no_growth held))
unread_tokens mode (Some input) held outcome (inr io) = rw io tt

-- what is printed of a scan, whichever input it is of
abbrev pub PrintsScan : Scanned → Option (List ℕ) → Option (List ℕ) → Outcome → Type 0
PrintsScan s a b printed =
    (mode : Mode) (input : List ℕ) → AreTokensOf input mode s → IfNone s.refusal (s.buf.items ≡ input) → ListsTokens mode input a b printed

pub tokens_end : (mode : Mode) (remaining : Option (List ℕ)) (s : Scanned) (a b c : Option (List ℕ)) (printed final : Outcome) →
    IfSome remaining (λ input. AreTokensOf input mode s) → IfNone s.refusal (IfSome remaining (λ input. s.buf.items ≡ input)) →
    PrintsScan s a b printed → Ends b c printed final → IfSome remaining (λ input. ListsTokens mode input a c final)
tokens_end mode None s a b c printed final scanned whole prints ends = tt
tokens_end mode (Some input) s a b c printed final scanned whole prints (inl io) = rw io tt
tokens_end mode (Some input) s a b c printed final scanned whole prints (inr same) =
    rw same.0 (tokens_keep mode input a b c printed (prints mode input scanned whole) same.1)

-- what is read is the whole of itself
itself : (s : Scanned) (refusal : Option ScanError) → IfNone refusal (s.buf.items ≡ s.buf.items)
itself s None = refl
itself s (Some e) = tt

pub tokens_end_grows : (mode : Mode) (s : Scanned) (a b c : Option (List ℕ)) (printed final : Outcome) → AreTokensOf s.buf.items mode s →
    PrintsScan s a b printed → Ends b c printed final → final ≢ Io → OnlyGrows a c
tokens_end_grows mode s a b c printed final scanned prints (inl io) other = absurd (other io)
tokens_end_grows mode s a b c printed final scanned prints (inr same) other =
    let lists = prints mode s.buf.items scanned (itself s s.refusal) in
    grows_keeps a b c (tokens_grow mode s.buf.items a b printed lists (λ io. other (same.0 ∙ io))) same.1

pub tokens_not_usage : (mode : Mode) (s : Scanned) (a b c : Option (List ℕ)) (printed final : Outcome) → AreTokensOf s.buf.items mode s →
    PrintsScan s a b printed → Ends b c printed final → final ≢ Usage
tokens_not_usage mode s a b c printed final scanned prints (inl io) usage = io_is_not_usage (sym io ∙ usage)
tokens_not_usage mode s a b c printed final scanned prints (inr same) usage =
    subst (ListsTokens mode s.buf.items a b) (sym same.0 ∙ usage) (prints mode s.buf.items scanned (itself s s.refusal))
