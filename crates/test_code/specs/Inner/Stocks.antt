-- What covers are made of, as the code has it.
use Rattle.form_model.specs.Covers.{StockModel, stock_with}
use Rattle.test_code.specs.declared.code.Stock.{Stock}

abbrev pub stock_in : Stock → StockModel
stock_in stock = stock_with stock.forms.now.list.items stock.temps stock.forms.now.file
