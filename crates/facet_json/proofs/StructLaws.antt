-- The laws of structs, field by field: nodes of the same text are read alike, and what is written of a readable struct is read as it.
use Rattle.std.proofs.Common.{◌≡◌, ℕ, Bool, true, false, cond, List, [], ◌∷◌, Option, Some, None, refl, subst}
use Rattle.std.proofs.lemmas.Bool.{and_parts}
use Rattle.std.proofs.lemmas.Str.{is_utf8-from_IsUtf8}
use Rattle.std.specs.Char.{is_ascii}
use Rattle.std.specs.List.{list_all}
use Rattle.std.specs.Option.{option_map}
use Rattle.std.specs.Str.{is_utf8}
use Rattle.facet_json_grammar.specs.Node.{no_members}
use Rattle.facet_json_grammar.specs.Text.{text, members_text, default_options}
use Rattle.facet_json_grammar.specs.Tree.{pairs, no_pairs, pair}
use Rattle.facet_json_grammar.specs.AsRead.{RawParts, RawMembers, IsDocumentText}
use Rattle.facet_json_grammar.proofs.Rfc.Encoded.{ascii}
use Rattle.facet_json_core.proofs.Meaning.TypeLaws.{nullable-laws}
use Rattle.facet_json_core.proofs.Meaning.Nodes.TextsWithin.{ReadsAnywhere, reads-anywhere, reads-alone, text-depth}
use Rattle.facet_json.specs.Fields.{Table, table, need, maybe, field_step, need_ends, maybe_ends, fields_of}
use Rattle.facet_json.specs.Shapes.{Shape, ShapeLaws, nullable, FieldList, no_more, needs, may_have, struct_of, is_text, lacks, are_names}
use Rattle.facet_json.proofs.FieldLaws.{SameSteps, none-same, need-same, maybe-same, fields-same}
use Rattle.facet_json.proofs.FieldsBack.{FieldsAre, none-are, field-are}
use Rattle.facet_json_core.proofs.Meaning.Objects.ObjectTexts.{MembersAnywhere, members-none, members-join, object-whole}

-- ---- names

text-by : (name : List ℕ) (b : Bool) → list_all is_ascii name ≡ b → cond b true (is_utf8 name) ≡ true → is_utf8 name ≡ true
text-by name true all is =
    let own = ascii {P = λ (t : List ℕ). Unit {0}} name all tt in is_utf8-from_IsUtf8 name (own.characters, (own.are_scalars, own.encoded))
text-by name false some is = is

text-utf8 : (name : List ℕ) → is_text name ≡ true → is_utf8 name ≡ true
text-utf8 name is = text-by name (list_all is_ascii name) refl is

-- ---- fields

-- As members of these names the value's raw parts are documents, and the members' text is read as the value.
pub record FieldsBack {V : Type 0} (fields : FieldList V) (v : V) : Type 0 where
  pub raw : RawMembers IsDocumentText (fields.written v)
  pub none : fields.written v ≡ no_pairs → (buffer : List ℕ) → FieldsAre fields.table fields.names v buffer no_members
  pub stand : MembersAnywhere (members_text default_options 0 true (fields.written v)) (FieldsAre fields.table fields.names v)

pub record FieldListLaws {V : Type 0} (fields : FieldList V) : Type 0 where
  pub same : SameSteps fields.table
  pub same_borrowed : SameSteps fields.table_borrowed
  pub back : are_names fields.names ≡ true → (v : V) → fields.always v → fields.readable v → FieldsBack fields v

pub no_more-laws : FieldListLaws no_more
unfolding RawMembers members_text
no_more-laws = record {
  same = none-same;
  same_borrowed = none-same;
  back = λ names v has is. record {
    raw = tt;
    none = λ e buffer. none-are buffer;
    stand = members-none (FieldsAre no_more.table [] tt) none-are;
  };
}

module _ {V : Type 0} (s : Shape V) (laws : ShapeLaws s) where
  -- Within an object too the text of a readable value is read as it.
  value-stands : (v : V) → s.always v → s.readable v → ReadsAnywhere s.reading (text default_options 1 (s.tree_of v)) v
  value-stands v has is =
      subst (λ t. ReadsAnywhere s.reading t v) (text-depth 0 1 (s.tree_of v))
      (reads-anywhere s.reading laws.same_reading (text default_options 0 (s.tree_of v)) v (laws.reads_back v has is).1)

-- a field and those after it, where these are what an object's fields are after its last member
abbrev field_list : {V W : Type 0} → List ℕ → Shape V → (others : FieldList W) → (Option V × others.table.Seen → Option (V × W)) → Table (V × W) → FieldList (V × W)
field_list name s others ends borrowed = record {
  names = name ∷ others.names;
  table = table (None, others.table.start) (field_step s.reading others.table.step) ends;
  table_borrowed = borrowed;
  written = λ v. pair name (s.tree_of v.0) (others.written v.1);
  always = λ v. s.always v.0 × others.always v.1;
  readable = λ v. s.readable v.0 × others.readable v.1;
}

module _ {V W : Type 0} (name : List ℕ) (s : Shape V) (laws : ShapeLaws s) (others : FieldList W) (more : FieldListLaws others) where
  field-back : (ends : Option V × others.table.Seen → Option (V × W)) (borrowed : Table (V × W)) →
      ((v : V) (seen : others.table.Seen) → ends (Some v, seen) ≡ option_map (λ w. (v, w)) (others.table.ends seen)) →
      let fields = field_list name s others ends borrowed in
      are_names fields.names ≡ true → (v : V × W) → fields.always v → fields.readable v → FieldsBack fields v
  unfolding RawMembers
  field-back ends borrowed begins names v has is =
      let fields = field_list name s others ends borrowed in
      let named = and_parts (is_text name) _ names in
      let apart = and_parts (lacks name others.names) (are_names others.names) named.1 in
      let behind = more.back apart.1 v.1 has.1 is.1 in
      record {
        raw = ((laws.reads_back v.0 has.0 is.0).0, behind.raw);
        none = λ e buffer. absurd (cc);
        stand = members-join s.reading name v.0 (FieldsAre others.table others.names v.1) (FieldsAre fields.table (name ∷ others.names) v)
            (field-are s.reading others.table ends v.0 (begins v.0) name others.names apart.0 v.1) (s.tree_of v.0) (others.written v.1) (text-utf8 name named.0)
            (value-stands s laws v.0 has.0 is.0) behind.none behind.stand;
      }

pub needs-laws : {V W : Type 0} {s : Shape V} {others : FieldList W} (name : List ℕ) → ShapeLaws s → FieldListLaws others →
    FieldListLaws (needs name s others)
needs-laws {s = s} {others = others} name laws more = record {
  same = need-same laws.same_reading more.same;
  same_borrowed = need-same laws.same_reading_borrowed more.same_borrowed;
  back = field-back name s laws others more (need_ends others.table.ends) (need s.reading_borrowed others.table_borrowed) (λ v seen. refl);
}

pub may_have-laws : {V W : Type 0} {s : Shape V} {others : FieldList W} (name : List ℕ) → ShapeLaws s → FieldListLaws others →
    FieldListLaws (may_have name s others)
may_have-laws {s = s} {others = others} name laws more = record {
  same = maybe-same laws.same_reading more.same;
  same_borrowed = maybe-same laws.same_reading_borrowed more.same_borrowed;
  back = field-back name (nullable s) (nullable-laws laws) others more (maybe_ends others.table.ends) (maybe s.reading_borrowed others.table_borrowed)
      (λ v seen. refl);
}

-- ---- structs

-- A struct's laws, where its fields have names of their own.
pub struct-laws : {V : Type 0} {fields : FieldList V} → FieldListLaws fields → are_names fields.names ≡ true → ShapeLaws (struct_of fields)
unfolding text RawParts
struct-laws {fields = fields} laws names = record {
  same_reading = fields-same laws.same fields.names;
  same_reading_borrowed = fields-same laws.same_borrowed fields.names;
  reads_back = λ v has is.
      let b = laws.back names v has is in (
        b.raw,
        reads-alone (fields_of fields.table fields.names) (text default_options 0 (pairs (fields.written v))) v
            (object-whole (fields_of fields.table fields.names) v (FieldsAre fields.table fields.names v) (members_text default_options 0 true (fields.written v))
            (λ buffer first last members h. h.are) b.stand),
      );
}
