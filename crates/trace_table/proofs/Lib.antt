mod OfTable
