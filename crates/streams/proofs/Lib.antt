mod Fill
