use Rattle.std.proofs.Common.{◌≡◌, [], refl}
use Rattle.std.specs.Str.{chars}
use Rattle.unicode_width.specs.Width.{str_width}
use Rattle.facet_json_lint.specs.Columns.{columns}

pub columns-nil : columns [] ≡ 0
unfolding chars str_width
columns-nil = refl
