-- Where an expression stands.
use Rattle.std.specs.Prelude.{map}
use Rattle.net_model.specs.Written.{model_of_unit}
use Rattle.net_model.specs.Numbering.{SiteModel, of_text, of_part}
use Rattle.net_elab.specs.declared.site.Site.{Site}
use Rattle.net_elab.specs.declared.site.Site.TheVariants.{Top, Part}

abbrev pub model_of_site : Site → SiteModel
model_of_site (Top text) = of_text (map model_of_unit text.now)
model_of_site (Part inside) = of_part inside.now.0 inside.now.1
