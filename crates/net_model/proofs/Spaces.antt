-- What holds of both spaces.
use Rattle.net_model.specs.declared.hardware.Space.{Space}
use Rattle.net_model.specs.declared.hardware.Space.TheVariants.{Memory as InMemory, File as InFile}

pub by_space : (P : Space → Type 0) → P InMemory → P InFile → (space : Space) → P space
by_space P m f InMemory = m
by_space P m f InFile = f
