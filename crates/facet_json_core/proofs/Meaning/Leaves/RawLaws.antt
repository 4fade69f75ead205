-- Raw text: nodes of the same text have the same, and a document with nothing around it comes back.
use Rattle.std.proofs.Common.{◌≡◌, ℕ, ◌-◌, true, cond, List, length, Option, Some, None, ap, ◌∙◌, arith}
use Rattle.std.specs.Str.{is_utf8}
use Rattle.std.proofs.lemmas.List.{take_all}
use Rattle.facet_json_grammar.specs.RunLaws.{last_token_of}
use Rattle.facet_json_grammar.specs.Text.{text}
use Rattle.facet_json_grammar.specs.Tree.{raw}
use Rattle.facet_json_grammar.specs.UnreadLaws.{first_token}
use Rattle.facet_json_grammar.specs.SkipLaws.{bytes_between}
use Rattle.facet_json_grammar.specs.AsRead.{RawParts}
use Rattle.facet_json_core.specs.Meaning.Nodes.{same_scalars, same_arrays, same_objects}
use Rattle.facet_json_core.specs.Meaning.Laws.{SameReading, ReadsBack}
use Rattle.facet_json_core.specs.Meaning.Readings.{raw_of, IsBareDocument}

-- the bytes, where they are UTF-8
abbrev if_utf8 : List ℕ → Option (List ℕ)
if_utf8 bytes = cond (is_utf8 bytes) (Some bytes) None

pub raw-same : SameReading raw_of
raw-same these those _ _ (same_scalars t u same bytes) = ap if_utf8 bytes
raw-same these those _ _ (same_arrays first last begin end nodes others bytes same) = ap if_utf8 bytes
raw-same these those _ _ (same_objects first last begin end inside others bytes same) = ap if_utf8 bytes

-- From its first token to its last one, a document with nothing around it is its text.
bare-between : (content : List ℕ) (bare : IsBareDocument content) →
    bytes_between content (first_token bare.root) (last_token_of bare.root) ≡ content
bare-between content bare =
    rw (bare.starts, bare.ends) (take_all (length content - 0) content (omega arith))

bare-read : (content : List ℕ) (bare : IsBareDocument content) → is_utf8 content ≡ true → raw_of content bare.root ≡ Some content
bare-read content bare utf8 =
    ap if_utf8 (bare-between content bare) ∙ ap (λ b. cond b (Some content) None) utf8

pub raw-reads_back : ReadsBack raw_of raw (λ (content : List ℕ). is_utf8 content ≡ true) IsBareDocument
unfolding RawParts text
raw-reads_back content utf8 bare = (
  (bare.root, bare.value, bare.document),
  record { root = bare.root; tree = bare.value; document = bare.document; is_read = bare-read content bare utf8 },
)
