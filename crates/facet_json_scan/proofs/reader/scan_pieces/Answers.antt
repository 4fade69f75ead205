-- The buffer begins what the source had, and is scanned as it grows.
use Rattle.std.proofs.Common.{◌≡◌, ◌||◌, [], ◌++◌, sym, ap, ◌∙◌, subst, refl, arith}
use Rattle.std.proofs.lemmas.Bool.{ne_eqb}
use Rattle.std.proofs.lemmas.List.{append-nil}
use Rattle.std.specs.Io.KnownBytes.{Consumes}
use Rattle.std.proofs.KnownBytes.{Consumes-nil, Consumes-trans}
use Rattle.facet_json_scan.specs.Listed.{tokens_of_list, rest_after, AreAllOf}
use Rattle.facet_json_scan.specs.Inner.Stands.{Stands}
use Rattle.facet_json_scan.proofs.GrowthOfPieces.{stands-grown, consumes-prefix, scanned-refused, scanned-stands}
use Rattle.facet_json_scan.proofs.reader.scan_pieces.Goals as goal

pub loop-refusal-init : goal.loop-refusal-init
loop-refusal-init g c = record {
  room = c.requires.room;
  stands = c.requires.stands;
  mode = refl;
  read = subst (Consumes _ _) (sym c.requires.first) (Consumes-nil _);
  ended = refl;
  failed = refl;
}

pub returns-then-is_some-clause-tokens : goal.returns-then-is_some-clause-tokens
returns-then-is_some-clause-tokens g c =
    let items = c.loop-refusal.buf.items in
    let tokens = c.scan_ahead.new.tokens.items in
    let refusal = c.in_ok-refusal.refusal in
    let mode = c.args.scanner.now.mode in
    consumes-prefix _ _ items (λ input. AreAllOf input mode (tokens_of_list tokens (rest_after refusal))) c.loop-refusal.invariant.read
    (λ more.
    scanned-refused _ items more _ mode tokens _ refusal c.as_slice.ensures.value c.loop-refusal.invariant.mode
    (sym c.is_some.ensures ∙ c.if-is_some.true) c.in_ok-refusal.ensures.scanned)

pub returns-then-is_some-clause-so_far : goal.returns-then-is_some-clause-so_far
returns-then-is_some-clause-so_far g c =
    let items = c.loop-refusal.buf.items in
    let tokens = c.scan_ahead.new.tokens.items in
    let refusal = c.in_ok-refusal.refusal in
    let mode = c.args.scanner.now.mode in
    subst (λ l. AreAllOf l mode (tokens_of_list tokens (rest_after refusal))) (append-nil items)
    (scanned-refused _ items [] _ mode tokens _ refusal c.as_slice.ensures.value c.loop-refusal.invariant.mode
    (sym c.is_some.ensures ∙ c.if-is_some.true) c.in_ok-refusal.ensures.scanned)

pub loop-refusal-preserved : goal.loop-refusal-preserved
loop-refusal-preserved g c =
    let items = c.loop-refusal.buf.items in
    let tokens = c.scan_ahead.new.tokens.items in
    let s = c.scan_ahead.new.scanner in
    let standing =
    scanned-stands _ items _ c.args.scanner.now.mode tokens s c.in_ok-refusal.refusal c.as_slice.ensures.value
    c.loop-refusal.invariant.mode (sym c.is_some.ensures ∙ c.if-is_some.false) c.in_ok-refusal.ensures.scanned in
    let bytes = c.in_ok-count.ensures.bytes in
    let all : c.read_piece.new.buf.items ≡ items ++ bytes.0 = bytes.1 in
    let was_ended = g.R.ByteSource.ended c.loop-refusal.source in
    record {
      room = omega (arith, c.loop-refusal.invariant.room, c.read_piece.auto.piece);
      stands = subst (λ l. Stands l tokens s) (sym all) (stands-grown items bytes.0 tokens s standing.0);
      mode = standing.2;
      read = subst (Consumes _ _) (sym all)
          (Consumes-trans _ _ _ items bytes.0 c.loop-refusal.invariant.read bytes.2);
      ended = c.in_ok-count.ensures.ended ∙ ap (λ t. t || was_ended) (ne_eqb c.in_ok-count.count 0 c.if-count-eq0.false)
          ∙ c.loop-refusal.invariant.ended;
      failed = c.in_ok-count.ensures.failed ∙ c.loop-refusal.invariant.failed;
    }
