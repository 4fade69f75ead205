-- What the contracts of all calls that read a value speak of: what was read, how far the parser came, and how it refused.
pub use Rattle.facet_format.specs.Views.{refusal_of}
pub use Rattle.facet_json_grammar.specs.Now.{ahead}
pub use Rattle.facet_json_grammar.specs.UnreadLaws.{RefusalWithin}
pub use Rattle.facet_json_core.specs.Refusing.{TellsRefusal}
pub use Rattle.facet_json_core.specs.Meaning.Nodes.{KeepsOn}
pub use Rattle.facet_json_core.specs.Meaning.OneValue.{PassesValue}
pub use Rattle.facet_json_core.specs.Meaning.Reading.{IsRead, IsUnread, HasDocument, EndsStrictly}
