use Rattle.std.proofs.Common.{◌≡◌, take}
use Rattle.std.specs.List.{flat_map}
use Rattle.std.specs.Io.KnownBytes.{Appends}
use Rattle.facet_json_command.specs.TokenViews.{text_of_token}
use Rattle.facet_json_command.proofs.tokens.write_tokens.Given as goal

abbrev pub invariant-loop-token : goal.invariant-loop-token
invariant-loop-token g l = record {
  printed : Appends (g.W.Write.contents l.fn.writer) (g.W.Write.contents l.writer)
      (flat_map text_of_token (take l.token-index l.tokens));
  unmarked : l.session.failed ≡ l.fn.session.failed;
}
