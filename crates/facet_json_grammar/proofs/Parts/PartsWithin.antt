-- A skip and a capture lead ahead within the buffer, and are refused within it.
use Rattle.std.proofs.Common.{◌≡◌, ◌<◌, ◌≤◌, ℕ, Bool, true, false, List, length, Result, Ok, Err, codes, arith, ap, subst}
use Rattle.facet_format.specs.Complaint.{unexpected_eof, Refusal, refusal_at}
use Rattle.facet_format.specs.Event.{ContainerKind}
use Rattle.facet_format.specs.Part.{Part, value, broken, key, closing, nothing, skip_of, captured, capture_of}
use Rattle.facet_format.specs.Span.{span_at, stop}
use Rattle.facet_json_token.specs.Token.{Token}
use Rattle.facet_json_token.specs.Tokens.{Tokens, next}
use Rattle.facet_json_grammar.specs.Future.{Stage, within, over}
use Rattle.facet_json_grammar.specs.Reader.{Reader}
use Rattle.facet_json_grammar.specs.Language.{Language, gaps, Rules, rules}
use Rattle.facet_json_grammar.specs.Place.{Place, led}
use Rattle.facet_json_grammar.specs.Run.{Run, one_token, brackets, RunsInside, nothing as no_runs, separator as mark, a_run}
use Rattle.facet_json_grammar.specs.Unread.{IsStuckUnread, at_end, at_fault, misplaced, HasColon, colon_stands, colon_missing, PartFrom, separator, a_value, a_broken_value, a_key, a_closing, none_of_them, PartIn, PartAt}
use Rattle.facet_json_grammar.specs.UnreadLaws.{RefusalWithin, LiesAhead, PartsWithin}
use Rattle.facet_json_grammar.proofs.InOrder.{InOrder, at_a_fault, at_a_token}
use Rattle.facet_json_grammar.proofs.Runs.BreaksWithin.{break-within}
use Rattle.facet_json_grammar.proofs.TokensInOrder.{in_order-weaker, in_order-within, tokens-in_order}

module _ (buffer : List ℕ) where
  -- ---- the end of a run

  -- The token ends after the offset and within the buffer, and the tokens after it stand in order.
  pub record EndsAhead (from : ℕ) (last : Token) (rest : Tokens) : Type 0 where
    pub behind : from < stop last.span
    pub inside : stop last.span ≤ length buffer
    later : InOrder buffer (stop last.span) rest

  -- The first of tokens in order does.
  token-ahead : (from : ℕ) (t : Token) (rest : Tokens) → InOrder buffer from (next t rest) → EndsAhead from t rest
  token-ahead from t rest (at_a_token _ _ _ b w more) = record { behind = b; inside = w; later = more }

  -- Tokens after one that ends after an offset stand in order after the offset.
  after-token : (from : ℕ) (t : Token) (rest : Tokens) → EndsAhead from t rest → InOrder buffer from rest
  after-token from t rest e =
      let behind = e.behind in
      in_order-weaker buffer rest (stop t.span) from (omega arith) e.later

  -- The tokens after a first one stand in order after the offset.
  after-first : (from : ℕ) (t : Token) (rest : Tokens) → InOrder buffer from (next t rest) → InOrder buffer from rest
  after-first from t rest o = after-token from t rest (token-ahead from t rest o)

  mutual
    -- A run's last token ends after the offset too.
    pub run-ahead : (from : ℕ) (ts rest : Tokens) (last : Token) → Run ts last rest → InOrder buffer from ts → EndsAhead from last rest
    run-ahead from _ _ _ (one_token t rest e) o = token-ahead from t rest o
    run-ahead from _ _ _ (brackets kind first last inner rest e inside f) o =
        token-ahead from last rest (runs-in_order from inner (next last rest) inside (after-first from first inner o))

    -- What follows runs, commas and colons stands in order.
    runs-in_order : (from : ℕ) (ts rest : Tokens) → RunsInside ts rest → InOrder buffer from ts → InOrder buffer from rest
    runs-in_order from _ _ (no_runs rest) o = o
    runs-in_order from _ _ (mark t ts rest e more) o = runs-in_order from ts rest more (after-first from t ts o)
    runs-in_order from _ _ (a_run ts others rest last run more) o =
        runs-in_order from others rest more (after-token from last others (run-ahead from ts others last run o))

  -- ---- parts

  -- A part whose offsets lie within the buffer, whose place lies ahead and whose refusal lies within it.
  data LiesWithin (from : ℕ) : Part Reader → Type 0 where
    value_within : (has : Bool) (start finish : ℕ) (place : Reader) → start ≤ length buffer → finish ≤ length buffer →
        LiesAhead buffer from place → LiesWithin from (value has start finish place)
    broken_within : (r : Refusal) → RefusalWithin buffer r → LiesWithin from (broken r)
    key_within : (start : ℕ) (place : Reader) → start ≤ length buffer → LiesAhead buffer from place →
        LiesWithin from (key start (Ok place))
    key_alone_within : (start : ℕ) (r : Refusal) → start ≤ length buffer → RefusalWithin buffer r →
        LiesWithin from (key start (Err r))
    closing_within : (start : ℕ) (place : Reader) → start ≤ length buffer → LiesAhead buffer from place →
        LiesWithin from (closing start place)
    nothing_within : (r : Refusal) → RefusalWithin buffer r → LiesWithin from (nothing r)

  -- Where no document goes on, tokens in order are refused within the buffer.
  stuck-within : (from : ℕ) (place : Place) (ts : Tokens) (r : Refusal) → IsStuckUnread buffer place ts r → InOrder buffer from ts →
      RefusalWithin buffer r
  stuck-within from place _ _ (at_end _) o = omega arith
  stuck-within from place _ _ (at_fault _ f) (at_a_fault _ _ w) = w
  stuck-within from place _ _ (misplaced _ t rest e) (at_a_token _ _ _ b w more) = w

  -- A token starts within the buffer where it ends within it.
  start-within : (from : ℕ) (t : Token) (rest : Tokens) → EndsAhead from t rest → t.span.offset ≤ length buffer
  start-within from t rest e =
      let inside = e.inside in
      omega arith

  -- A key lies within the buffer, with its colon or without.
  colon-within : (from start : ℕ) (stack : List ContainerKind) (ts : Tokens) (result : Result Reader Refusal) → start ≤ length buffer →
      HasColon buffer stack ts result → InOrder buffer from ts → LiesWithin from (key start result)
  colon-within from start stack _ _ h (colon_stands t rest e) (at_a_token _ _ _ b w more) = key_within start _ h (b, w)
  colon-within from start stack ts _ h (colon_missing _ r stuck) o = key_alone_within start r h (stuck-within from _ ts r stuck o)

  -- A part that tokens in order begin with lies within the buffer.
  from-within : (by : Rules) (from : ℕ) (stack : List ContainerKind) (place : Place) (ts : Tokens) (part : Part Reader) →
      PartFrom buffer by stack place ts part → InOrder buffer from ts → LiesWithin from part
  from-within by from stack place _ part (separator _ other t rest _ e more) o =
      from-within by from stack (led by other) rest part more (after-first from t rest o)
  from-within by from stack place _ _ (a_value _ t last rest others e run) o =
      let first = token-ahead from t rest o in
      let end = run-ahead from (next t rest) others last run o in
      value_within _ _ _ _ (start-within from t rest first) end.inside (end.behind, end.inside)
  from-within by from stack place _ _ (a_broken_value _ t rest r e b) o =
      broken_within r (break-within buffer (next t rest) r b (in_order-within buffer from (next t rest) o))
  from-within by from stack place _ _ (a_key _ t rest result e colon) o =
      let first = token-ahead from t rest o in
      colon-within from _ stack rest result (start-within from t rest first) colon (after-first from t rest o)
  from-within by from stack place _ _ (a_closing _ t rest e) o =
      let first = token-ahead from t rest o in
      closing_within _ _ (start-within from t rest first) (first.behind, first.inside)
  from-within by from stack place ts _ (none_of_them _ _ r stuck) o = nothing_within r (stuck-within from place ts r stuck o)

  -- After the root, what is refused lies within the buffer, where the end of the root does.
  end-within : (from at : ℕ) → at ≤ length buffer → LiesWithin from (nothing (refusal_at (unexpected_eof (codes "value")) (span_at at 0)))
  end-within from at h = nothing_within (refusal_at (unexpected_eof (codes "value")) (span_at at 0)) (omega arith)

  -- A part at a stage lies within the buffer, where the last token before does.
  in-within : (language : Language) (s : Reader) (stage : Stage) (part : Part Reader) → stop s.last ≤ length buffer →
      PartIn buffer language s stage part → LiesWithin (stop s.last) part
  in-within language s over part h p = rw p (end-within (stop s.last) (stop s.last) h)
  in-within language s (within place) part h p =
      from-within (rules language) (stop s.last) s.stack place _ part p (tokens-in_order buffer (gaps language) (stop s.last) h)

  -- ---- skips

  -- Where one refusal lies within the buffer, so does the same refusal of an answer.
  same-refused : (P : Type 0) (a b : Refusal) → ◌≡◌ {A = Result P Refusal} (Err a) (Err b) → RefusalWithin buffer a →
      RefusalWithin buffer b
  same-refused P a b e h = let same : a ≡ b = cc in subst (RefusalWithin buffer) same h

  -- A skip leads ahead.
  skip-ahead : (from : ℕ) (part : Part Reader) (place : Reader) → LiesWithin from part → skip_of part ≡ Ok place →
      LiesAhead buffer from place
  skip-ahead from _ place (value_within has start finish there h k ahead) e =
      let same : there ≡ place = cc in subst (LiesAhead buffer from) same ahead
  skip-ahead from _ place (broken_within r h) e = cc
  skip-ahead from _ place (key_within start there h ahead) e =
      let same : there ≡ place = cc in subst (LiesAhead buffer from) same ahead
  skip-ahead from _ place (key_alone_within start r h k) e = cc
  skip-ahead from _ place (closing_within start there h ahead) e =
      let same : there ≡ place = cc in subst (LiesAhead buffer from) same ahead
  skip-ahead from _ place (nothing_within r h) e = cc

  -- It is refused within the buffer.
  no_skip-within : (from : ℕ) (part : Part Reader) (r : Refusal) → LiesWithin from part → skip_of part ≡ Err r → RefusalWithin buffer r
  no_skip-within from _ r (value_within has start finish there h k ahead) e = cc
  no_skip-within from _ r (broken_within s h) e = same-refused Reader s r e h
  no_skip-within from _ r (key_within start there h ahead) e = cc
  no_skip-within from _ r (key_alone_within start s h k) e = same-refused Reader s r e k
  no_skip-within from _ r (closing_within start there h ahead) e = cc
  no_skip-within from _ r (nothing_within s h) e = same-refused Reader s r e h

  -- ---- captures

  -- What is captured leads to the place.
  pub captured-place : (start finish : ℕ) (there place : Reader) (content text : List ℕ) (valid : Bool) →
      captured start finish there content valid ≡ Ok (text, place) → there ≡ place
  captured-place start finish there place content text true e =
      let same : ◌≡◌ {A = List ℕ × Reader} (content, there) (text, place) = cc in ap (λ (x : List ℕ × Reader). x.1) same
  captured-place start finish there place content text false e = cc

  -- A text that is not UTF-8 is refused within the buffer.
  captured-refused : (start finish : ℕ) (there : Reader) (content : List ℕ) (valid : Bool) (r : Refusal) → start ≤ length buffer →
      finish ≤ length buffer → captured start finish there content valid ≡ Err r → RefusalWithin buffer r
  captured-refused start finish there content true r h k e = cc
  captured-refused start finish there content false r h k e = same-refused (List ℕ × Reader) _ r e (omega arith)

  -- A capture leads ahead.
  capture-ahead : (from : ℕ) (part : Part Reader) (text : List ℕ) (place : Reader) → LiesWithin from part →
      capture_of buffer part ≡ Ok (text, place) → LiesAhead buffer from place
  capture-ahead from _ text place (value_within has start finish there h k ahead) e =
      subst (LiesAhead buffer from) (captured-place start finish there place _ text _ e) ahead
  capture-ahead from _ text place (broken_within r h) e = cc
  capture-ahead from _ text place (key_within start there h ahead) e = cc
  capture-ahead from _ text place (key_alone_within start r h k) e = cc
  capture-ahead from _ text place (closing_within start there h ahead) e = cc
  capture-ahead from _ text place (nothing_within r h) e = cc

  -- It is refused within the buffer.
  no_capture-within : (from : ℕ) (part : Part Reader) (r : Refusal) → LiesWithin from part → capture_of buffer part ≡ Err r →
      RefusalWithin buffer r
  no_capture-within from _ r (value_within has start finish there h k ahead) e = captured-refused start finish there _ _ r h k e
  no_capture-within from _ r (broken_within s h) e = same-refused (List ℕ × Reader) s r e h
  no_capture-within from _ r (key_within start there h ahead) e = same-refused (List ℕ × Reader) _ r e (omega arith)
  no_capture-within from _ r (key_alone_within start s h k) e = same-refused (List ℕ × Reader) _ r e (omega arith)
  no_capture-within from _ r (closing_within start there h ahead) e = same-refused (List ℕ × Reader) _ r e (omega arith)
  no_capture-within from _ r (nothing_within s h) e = same-refused (List ℕ × Reader) s r e h

module _ (buffer : List ℕ) (language : Language) (s : Reader) (part : Part Reader) (h : stop s.last ≤ length buffer)
    (here : PartAt buffer language s part) where
  -- The part that stands at a place lies within the buffer.
  part-within : LiesWithin buffer (stop s.last) part
  part-within = in-within buffer language s s.stage part h here

  -- A skip leads to a place whose last token lies within the buffer and after the last one.
  pub skip-within : (place : Reader) → skip_of part ≡ Ok place → LiesAhead buffer (stop s.last) place
  skip-within place e = skip-ahead buffer (stop s.last) part place part-within e

  -- A skip is refused within the buffer.
  pub skip-refused-within : (r : Refusal) → skip_of part ≡ Err r → RefusalWithin buffer r
  skip-refused-within r e = no_skip-within buffer (stop s.last) part r part-within e

  -- A capture leads to a place whose last token lies within the buffer and after the last one.
  pub capture-within : (text : List ℕ) (place : Reader) → capture_of buffer part ≡ Ok (text, place) → LiesAhead buffer (stop s.last) place
  capture-within text place e = capture-ahead buffer (stop s.last) part text place part-within e

  -- A capture is refused within the buffer.
  pub capture-refused-within : (r : Refusal) → capture_of buffer part ≡ Err r → RefusalWithin buffer r
  capture-refused-within r e = no_capture-within buffer (stop s.last) part r part-within e

pub parts_within : PartsWithin
parts_within buffer language s part h here = record {
  skip = skip-within buffer language s part h here;
  no_skip = skip-refused-within buffer language s part h here;
  capture = capture-within buffer language s part h here;
  no_capture = capture-refused-within buffer language s part h here;
}
